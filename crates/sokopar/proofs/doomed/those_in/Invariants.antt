-- The squares so far are those that are in the plight.
use Rattle.std.proofs.Common.{take}
use Rattle.sokopar.specs.Explaining.{AreIn}
use Rattle.sokopar.proofs.doomed.those_in.Given as goal

abbrev pub invariant-loop-square : goal.invariant-loop-square
invariant-loop-square l = AreIn l.level l.plight (take l.square-index l.squares) l.found.items
