-- The board that rows of cells make.
use Rattle.std.specs.Prelude.{ℕ, ◌-◌, max, Bool, true, false, List, [], ◌∷◌, ◌++◌, length, replicate, flat_map}
use Rattle.grid.specs.declared.cell.Cell.{Cell}
use Rattle.grid.specs.declared.cell.Cell.TheVariants.{Floor}
use Rattle.grid.specs.Board.{Board}

-- x before a list; nothing where x is to go and nothing follows it
abbrev pub before_rest : {A : Type 0} → Bool → A → List A → List A
before_rest true x [] = []
before_rest true x (y ∷ ys) = x ∷ y ∷ ys
before_rest false x ys = x ∷ ys

-- a list without the elements at its end that pass a test
abbrev pub cut_end : {A : Type 0} → (A → Bool) → List A → List A
cut_end test [] = []
cut_end test (x ∷ xs) = before_rest (test x) x (cut_end test xs)

-- the cell is floor with nothing on it
abbrev pub is_floor : Cell → Bool
is_floor Floor = true
is_floor cell = false

-- a row without the floor at its end
abbrev pub cut_row : List Cell → List Cell
cut_row row = cut_end is_floor row

-- the greatest length of the rows, without the floor at their ends
abbrev pub cols_of : List (List Cell) → ℕ
cols_of [] = 0
cols_of (row ∷ rows) = max (length (cut_row row)) (cols_of rows)

-- a row with floor on the right up to the number of columns
abbrev pub padded : ℕ → List Cell → List Cell
padded cols row = cut_row row ++ replicate (cols - length (cut_row row)) Floor

-- the board of some rows: floor at the end of a row is cut off, the number of columns is the greatest length after
-- that, and shorter rows are padded with floor on the right
unfoldable pub board_of : List (List Cell) → Board
board_of rows = record { cols = cols_of rows; cells = flat_map (padded (cols_of rows)) rows }
