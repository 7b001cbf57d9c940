use Rattle.std.proofs.Common.{◌≡◌, ◌≤◌, length, take, drop}
use Rattle.xsb.specs.Boards.{cut_row}
use Rattle.xsb.proofs.writer.kept_cells.Given as goal

abbrev pub invariant-loop-col : goal.invariant-loop-col
invariant-loop-col l = (l.kept ≡ length (cut_row (take l.col (drop l.start l.level.cells)))) × (l.kept ≤ l.col)
