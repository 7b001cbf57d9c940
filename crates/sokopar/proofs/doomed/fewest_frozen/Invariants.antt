-- Some of the boxes that are left are frozen.
use Rattle.std.proofs.Common.{◌≡◌, length}
use Rattle.doom.specs.Deadlocks.{IsFrozen}
use Rattle.grid.specs.Squares.{Squares}
use Rattle.sokopar.specs.inside.Explaining.{AreAmong}
use Rattle.sokopar.proofs.doomed.fewest_frozen.Given as goal

abbrev pub invariant-loop-square : goal.invariant-loop-square
invariant-loop-square l = record {
  among : AreAmong l.few.items l.boxes;
  frozen : (members : Squares) × IsFrozen l.level l.few.items members;
  room : l.scratch.size ≡ length l.level.cells;
}
