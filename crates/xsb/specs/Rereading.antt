-- When a written level is read back as it was.
use Rattle.std.specs.Prelude.{◌≡◌, Bool, List, cond, Any, All, Contains}
use Rattle.grid.specs.declared.cell.Cell.{Cell}
use Rattle.grid.specs.declared.cell.Cell.TheVariants.{Wall, Floor, Goal, Box, BoxOnGoal, Player, PlayerOnGoal}
use Rattle.grid.specs.Board.{Board}
use Rattle.grid.specs.Lawful.{row_count}
use Rattle.xsb.specs.Boards.{cut_row}
use Rattle.xsb.specs.Written.{rows_from}

-- the rows of a board
abbrev pub rows_of_board : Board → List (List Cell)
rows_of_board board = rows_from (row_count board) board.cols board.cells

-- each row has a wall
abbrev pub HasWallInEachRow : Board → Type 0
HasWallInEachRow board = All (λ row. Contains row Wall) (rows_of_board board)

-- the last column is not all floor: some row does not end with floor
abbrev pub HasFullRow : Board → Type 0
HasFullRow board = Any (λ row. cut_row row ≡ row) (rows_of_board board)

-- the cell with or without a wall, a box, the player and a goal
abbrev pub cell_with : Bool → Bool → Bool → Bool → Cell
cell_with wall boxed player goal =
    cond wall Wall (cond boxed (cond goal BoxOnGoal Box)
    (cond player (cond goal PlayerOnGoal Player) (cond goal Goal Floor)))
