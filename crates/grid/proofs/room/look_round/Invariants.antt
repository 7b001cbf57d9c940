use Rattle.std.proofs.Common.{◌≤◌}
use Rattle.grid.specs.inside.Filling.{board_of, work}
use Rattle.grid.proofs.lemmas.Filling.{IsLooking}
use Rattle.grid.proofs.room.look_round.Given as goal

abbrev pub invariant-loop-dir : goal.invariant-loop-dir
invariant-loop-dir l = record {
  looking : IsLooking (board_of l.cols l.cells) l.room l.pending.items l.fn.square l.dir-index;
  work : work l.room l.pending.items ≤ work l.fn.room l.fn.pending.items;
}
