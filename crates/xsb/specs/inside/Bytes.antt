-- The names of the bytes that part a text, the cell of each byte, and the bytes of a row.
use Rattle.std.specs.Prelude.{ℕ, cond, ◌==◌, List, [], ◌∷◌, ◌++◌, map, Option, Some, None}
use Rattle.grid.specs.declared.cell.Cell.{Cell}
use Rattle.grid.specs.declared.cell.Cell.TheVariants.{Wall, Floor, Goal, Box, BoxOnGoal, Player, PlayerOnGoal}
use Rattle.xsb.specs.Boards.{cut_row}
use Rattle.xsb.specs.Rows.{cell_byte}

-- LF ends a line
abbrev pub line_feed : ℕ
line_feed = 10

-- CR may come before it
abbrev pub carriage_return : ℕ
carriage_return = 13

-- `|` cuts a line into pieces
abbrev pub bar : ℕ
bar = 124

-- `#` is a wall
abbrev pub wall_byte : ℕ
wall_byte = 35

-- the cell that a byte stands for, if it stands for one
abbrev pub cell_of : ℕ → Option Cell
cell_of b =
    cond (b == 35) (Some Wall)
    (cond (b == 64) (Some Player)
    (cond (b == 43) (Some PlayerOnGoal)
    (cond (b == 36) (Some Box)
    (cond (b == 42) (Some BoxOnGoal)
    (cond (b == 46) (Some Goal)
    (cond (b == 32) (Some Floor)
    (cond (b == 45) (Some Floor)
    (cond (b == 95) (Some Floor) None))))))))

-- a row as it is written: without floor at its end, ended by a line feed
abbrev pub written_row : List Cell → List ℕ
written_row row = map cell_byte (cut_row row) ++ 10 ∷ []
