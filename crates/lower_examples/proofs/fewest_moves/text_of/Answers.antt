use Rattle.std.proofs.Common.{None, length, refl, sym, subst, ◌∙◌}
use Rattle.std.specs.Prelude.{IfOk}
use Rattle.grid.specs.Board.{Board}
use Rattle.lurd.specs.declared.verdict.Verdict.TheVariants.{Solved}
use Rattle.prices.specs.Fewest.{NoneHasFewer}
use Rattle.prover.specs.Outcomes.{IsOutcome}
use Rattle.prices.specs.Searching.{SomeHas}
use Rattle.shortest.proofs.lemmas.Fewest.{some_has}
use Rattle.lower_examples.proofs.fewest_moves.text_of.Goals as goal

pub search_moves-requires-clause-some : goal.search_moves-requires-clause-some
search_moves-requires-clause-some g c =
    let board = c.deref.result.now in let pushes = c.in-Least.pushes in let moves = c.in-Least.moves in
    let found = subst (λ r. IfOk r (IsOutcome board None 1000 _)) c.in-Least.ensures c.search.ensures.outcome in
    subst (λ (b : Board). SomeHas b pushes) (c.deref.ensures ∙ sym c.deref-2.ensures)
    (some_has board moves (Solved pushes (length moves)) pushes (length moves) refl found.0)

pub search_moves-requires-clause-fewest : goal.search_moves-requires-clause-fewest
search_moves-requires-clause-fewest g c =
    let found = subst (λ r. IfOk r (IsOutcome c.deref.result.now None 1000 _)) c.in-Least.ensures c.search.ensures.outcome in
    subst (λ (b : Board). NoneHasFewer b c.in-Least.pushes) (c.deref.ensures ∙ sym c.deref-2.ensures) found.1
