use Rattle.std.proofs.Common.{◌≡◌, take}
use Rattle.std.specs.List.{count_by}
use Rattle.grid.specs.Board.{goal_cell}
use Rattle.grid.proofs.judging.goals_of.Given as goal

abbrev pub invariant-loop-cell : goal.invariant-loop-cell
invariant-loop-cell l = l.goals ≡ count_by goal_cell (take l.cell-index l.cells)
