use Rattle.std.proofs.Common.{◌≡◌}
use Rattle.prover.specs.inside.Rounds.{AreLanes}
use Rattle.prover.specs.inside.Working.{GetsOn, IsSearchOnBoard}
use Rattle.prover.proofs.rounds.enter_each.Given as goal

abbrev pub invariant-loop-index : goal.invariant-loop-index
invariant-loop-index l = record {
  searched : IsSearchOnBoard l.pruner.board l.pruner.cap l.frontier;
  lanes : AreLanes l.pruner l.frontier.entries l.lanes;
  goes_on : GetsOn l.fn.frontier.entries l.frontier.entries;
  problem : l.workspace.expander.problem ≡ l.pruner;
  same : l.workspace.expander.problem ≡ l.fn.workspace.expander.problem;
}
