use Rattle.prover.specs.inside.Working.{AreEntered, IsExpanding, Widens}
use Rattle.std.proofs.Common.{suc}
use Rattle.prover.proofs.recording.enter_all.Given as goal

abbrev pub invariant-loop-index : goal.invariant-loop-index
invariant-loop-index l = record {
  expanding : IsExpanding l.pruner.board l.pruner.cap l.frontier l.from;
  widens : Widens l.pruner.board l.pruner.cap l.from.pushes l.fn.frontier l.frontier;
  entered : AreEntered l.frontier.entries l.opened (suc l.from.pushes) l.index;
}
