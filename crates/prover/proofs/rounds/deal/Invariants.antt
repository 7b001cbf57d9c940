use Rattle.std.proofs.Common.{◌≡◌, length}
use Rattle.prover.specs.inside.Rounds.{AreLanes}
use Rattle.prover.proofs.rounds.deal.Given as goal

abbrev pub invariant-loop-index : goal.invariant-loop-index
invariant-loop-index l = record {
  same : l.frontier ≡ l.fn.frontier;
  lanes : AreLanes l.pruner l.fn.frontier.entries l.lanes;
  all : length l.lanes ≡ length l.fn.lanes;
}
