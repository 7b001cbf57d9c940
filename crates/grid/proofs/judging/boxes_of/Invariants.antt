use Rattle.std.proofs.Common.{◌≡◌, take}
use Rattle.std.specs.List.{count_by}
use Rattle.grid.specs.Board.{box_cell}
use Rattle.grid.proofs.judging.boxes_of.Given as goal

abbrev pub invariant-loop-cell : goal.invariant-loop-cell
invariant-loop-cell l = l.boxes ≡ count_by box_cell (take l.cell-index l.cells)
