-- When `==` of levels answers true.
use Rattle.std.specs.Prelude.{ℕ, Bool, ◌==◌, map}
use Rattle.std.specs.Ordering.{on, eq_of_both}
use Rattle.std.specs.Cmp.Lexicographic.{pointwise}
use Rattle.grid.specs.declared.cell.Cell.{Cell}
use Rattle.grid.specs.declared.cell.Cell.TheVariants.{Wall, Floor, Goal, Box, BoxOnGoal, Player, PlayerOnGoal}
use Rattle.grid.specs.Board.{Board}

-- each kind of cell has a number of its own
abbrev pub cell_number : Cell → ℕ
cell_number Wall = 0
cell_number Floor = 1
cell_number Goal = 2
cell_number Box = 3
cell_number BoxOnGoal = 4
cell_number Player = 5
cell_number PlayerOnGoal = 6

-- two boards have one size and the same cells
abbrev pub same_board : Board → Board → Bool
same_board =
    eq_of_both (on (λ board. board.cols) ◌==◌) (on (λ board. map cell_number board.cells) (pointwise ◌==◌))
