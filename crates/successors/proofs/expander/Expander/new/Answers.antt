use Rattle.std.proofs.Common.{length, ap, subst, ◌∙◌}
use Rattle.grid.specs.Board.{Board}
use Rattle.doom.specs.inside.Dangers.{AreDangers}
use Rattle.successors.proofs.expander.Expander.new.Goals as goal

pub invariant_of-result : goal.invariant_of-result
invariant_of-result c = (
  c.in_ok-scratch.ensures ∙ ap (λ (b : Board). length b.cells) c.level.ensures,
  subst (λ (b : Board). AreDangers b c.in_ok-scratch.scratch.boxes c.find.new.self.words.items) c.level-2.ensures c.find.ensures,
)
