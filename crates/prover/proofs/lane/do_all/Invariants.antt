use Rattle.std.proofs.Common.{◌≡◌, length}
use Rattle.prover.specs.inside.Rounds.{ArePicks}
use Rattle.prover.proofs.lane.do_all.Given as goal

abbrev pub invariant-loop-index : goal.invariant-loop-index
invariant-loop-index l = record {
  picks : ArePicks l.pruner l.frontier.entries l.picks;
  problem : l.workspace.expander.problem ≡ l.pruner;
  all : length l.picks ≡ length l.fn.picks;
}
