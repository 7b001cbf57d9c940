use Rattle.std.proofs.Common.{◌∙◌, subst}
use Rattle.grid.specs.Board.{Board}
use Rattle.prover.specs.Parity.{AreOdd}
use Rattle.prover.proofs.pruner.Pruner.of.Goals as goal

pub invariant_of-result : goal.invariant_of-result
invariant_of-result c = (
  c.in_ok-regions.ensures ∙ c.level.ensures,
  λ pushes some. subst (λ (b : Board). AreOdd b c.are_odd.result) c.level-3.ensures c.are_odd.ensures pushes some,
)
