use Rattle.std.proofs.Common.{sym, ◌∙◌}
use Rattle.grid.proofs.lemmas.Directions.{each_test}
use Rattle.corrals.proofs.checking.is_ready_round.Goals as goal

pub returns-clause-ready : goal.returns-clause-ready
returns-clause-ready c told m allowed = (
  sym c.has_box.ensures ∙ c.if-not-has_box.false,
  each_test _ _ _ _ _
      (λ h. c.is_ready_along-down.ensures.ready h m allowed) (λ h. c.is_ready_along-left.ensures.ready h m allowed)
      (λ h. c.is_ready_along-right.ensures.ready h m allowed) (λ h. c.is_ready_along-up.ensures.ready h m allowed) told,
)
