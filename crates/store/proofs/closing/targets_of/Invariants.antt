use Rattle.store.proofs.Exchanging.{AreTargetsSoFar}
use Rattle.store.proofs.closing.targets_of.Given as goal

abbrev pub invariant-loop-target : goal.invariant-loop-target
invariant-loop-target l = AreTargetsSoFar l.rows l.target l.targets.items
