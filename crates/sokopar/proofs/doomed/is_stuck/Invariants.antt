-- No step so far was possible.
use Rattle.sokopar.proofs.Plights.{AreBlocked}
use Rattle.sokopar.proofs.doomed.is_stuck.Given as goal

abbrev pub invariant-loop-dir : goal.invariant-loop-dir
invariant-loop-dir l = AreBlocked l.level l.dir-index l.state
