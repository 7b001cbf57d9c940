-- The squares with goals are a set.
use Rattle.std.proofs.Common.{◌≡◌, ℕ, true, refl}
use Rattle.grid.specs.declared.cell.Cell.TheVariants.{Wall}
use Rattle.grid.specs.Squares.{contains}
use Rattle.grid.specs.Rising.{is_rising}
use Rattle.grid.specs.Board.{Board, is_goal, goal_cell}
use Rattle.grid.proofs.lemmas.Places.{contains-places, is_rising-places_from}
use Rattle.prices.specs.Prices.{goals_of}

-- a square is among the goals where it has one
pub contains-goals : (board : Board) (q : ℕ) → contains (goals_of board) q ≡ is_goal board q
unfolding is_goal
contains-goals board q = contains-places goal_cell board.cells q Wall refl

-- the goals rise
pub is_rising-goals : (board : Board) → is_rising (goals_of board) ≡ true
is_rising-goals board = is_rising-places_from goal_cell 0 board.cells
