use Rattle.std.proofs.Common.{◌≡◌}
use Rattle.successors.specs.Expanding.{HasPushesOf}
use Rattle.prover.specs.inside.Working.{AreOpenedBy, ArePushesDone, IsChosen, IsKept, IsLater, tighter}
use Rattle.prover.proofs.expansion.open_all.Given as goal

abbrev pub invariant-loop-index : goal.invariant-loop-index
invariant-loop-index l = record {
  problem : l.workspace.expander.problem ≡ l.pruner;
  found : HasPushesOf l.workspace.expander l.from.position;
  same : l.workspace.expander ≡ l.initial.workspace.expander;
  corral : l.workspace.corral ≡ l.initial.workspace.corral;
  each : AreOpenedBy l.pruner.board l.pruner.cap l.from l.workspace.opened.items;
  taken : ArePushesDone l.pruner.board (tighter l.pruner.cap l.workspace.next) (IsKept l.frontier.entries l.from.pushes l.workspace.opened.items) (IsChosen l.only l.workspace.corral.held)
      l.from.pushes l.from.position l.workspace.expander.pushes l.index;
  later : IsLater l.pruner.cap l.from.reach l.workspace.next;
}
