-- How many goals there are.
use Rattle.std.proofs.Common.{◌≡◌, length}
use Rattle.grid.specs.Lawful.{goal_count}
use Rattle.grid.specs.Board.{Board, goal_cell}
use Rattle.grid.proofs.lemmas.Places.{length-places_from}
use Rattle.prices.specs.Prices.{goals_of}

pub length-goals : (board : Board) → length (goals_of board) ≡ goal_count board
length-goals board = length-places_from goal_cell 0 board.cells
