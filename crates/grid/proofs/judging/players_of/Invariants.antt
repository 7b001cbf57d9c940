use Rattle.std.proofs.Common.{◌≡◌, take}
use Rattle.std.specs.List.{count_by}
use Rattle.grid.specs.Board.{player_cell}
use Rattle.grid.proofs.judging.players_of.Given as goal

abbrev pub invariant-loop-cell : goal.invariant-loop-cell
invariant-loop-cell l = l.players ≡ count_by player_cell (take l.cell-index l.cells)
