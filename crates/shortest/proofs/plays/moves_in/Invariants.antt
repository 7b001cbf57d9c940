use Rattle.std.proofs.Common.{◌≡◌, length}
use Rattle.grid.specs.States.{IsScene}
use Rattle.shortest.proofs.plays.moves_in.Given as goal

abbrev pub invariant-loop-push : goal.invariant-loop-push
invariant-loop-push l = record {
  scene : IsScene l.level l.state;
  room : l.scratch.size ≡ length l.level.cells;
}
