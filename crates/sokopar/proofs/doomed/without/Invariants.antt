-- The boxes that are left are among them.
use Rattle.sokopar.specs.inside.Explaining.{AreAmong}
use Rattle.sokopar.proofs.doomed.without.Given as goal

abbrev pub invariant-loop-one : goal.invariant-loop-one
invariant-loop-one l = AreAmong l.others.items l.boxes
