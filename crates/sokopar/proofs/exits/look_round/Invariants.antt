-- The squares beside the square in the first directions were looked at.
use Rattle.std.proofs.Common.{◌+◌}
use Rattle.sokopar.specs.inside.Explaining.{board_in}
use Rattle.sokopar.proofs.Exiting.{IsTurning}
use Rattle.sokopar.proofs.exits.look_round.Given as goal

abbrev pub invariant-loop-dir : goal.invariant-loop-dir
invariant-loop-dir l =
    IsTurning (board_in l.rows) (l.turn + 1) l.square l.dir-index l.fn.marks l.fn.pending.items l.marks l.pending.items
