-- Row lines and text lines.
use Rattle.std.specs.Prelude.{◌≡◌, ℕ, ◌==◌, nat_lt, ◌⊎◌, List, [], ◌∷◌, ◌++◌, length, filter, replicate, Contains}
use Rattle.std.specs.List.{slice_split, AllZip}
use Rattle.grid.specs.declared.cell.Cell.{Cell}
use Rattle.grid.specs.declared.cell.Cell.TheVariants.{Wall, Floor, Goal, Box, BoxOnGoal, Player, PlayerOnGoal}
use Rattle.counts.specs.Counts.{Means}

-- the byte that is written for a cell
abbrev pub cell_byte : Cell → ℕ
cell_byte Wall = 35
cell_byte Player = 64
cell_byte PlayerOnGoal = 43
cell_byte Box = 36
cell_byte BoxOnGoal = 42
cell_byte Goal = 46
cell_byte Floor = 32

-- the byte stands for the cell: `#` wall, `@` player, `+` player on goal, `$` box, `*` box on goal, `.` goal; space,
-- `-`, `_` floor
abbrev pub StandsFor : ℕ → Cell → Type 0
StandsFor b c = (b ≡ cell_byte c) ⊎ (((b ≡ 45) ⊎ (b ≡ 95)) × (c ≡ Floor))

-- an item: a cell byte, which with a count right before it stands for that many cells, and else for one
pub data IsItem : List ℕ → List Cell → Type 0 where
  counted : (digits : List ℕ) (n b : ℕ) (c : Cell) → Means digits n → StandsFor b c →
      IsItem (digits ++ b ∷ []) (replicate n c)

-- a row: items one after the other
pub data IsRow : List ℕ → List Cell → Type 0 where
  done : IsRow [] []
  more : (item bytes : List ℕ) (cells row : List Cell) → IsItem item cells → IsRow bytes row →
      IsRow (item ++ bytes) (cells ++ row)

-- the pieces into which bars, which are the byte 124, cut a line; empty ones are skipped
abbrev pub pieces_of : List ℕ → List (List ℕ)
pieces_of line = filter (λ piece. nat_lt 0 (length piece)) (slice_split (λ b. b == 124) line)

-- a row line: each piece is a row, and the line has a wall, which is the byte 35
pub record IsRowLine (line : List ℕ) (rows : List (List Cell)) : Type 0 where
  pub pieces : AllZip IsRow (pieces_of line) rows
  pub wall : Contains line 35

-- a text line: every other line
abbrev pub IsTextLine : List ℕ → Type 0
IsTextLine line = (rows : List (List Cell)) → ¬ (IsRowLine line rows)
