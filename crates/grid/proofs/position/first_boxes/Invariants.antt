use Rattle.std.proofs.Common.{◌≡◌, take}
use Rattle.grid.specs.Board.{box_cell}
use Rattle.grid.specs.Squares.{places_from}
use Rattle.grid.proofs.position.first_boxes.Given as goal

abbrev pub invariant-loop-i : goal.invariant-loop-i
invariant-loop-i l = l.boxes.items ≡ places_from box_cell 0 (take l.i l.cells)
