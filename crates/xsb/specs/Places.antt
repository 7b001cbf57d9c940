-- Where the rows of a board are in a collection.
use Rattle.std.specs.Prelude.{◌≡◌, ℕ, suc, ◌+◌, ◌-◌, ◌<◌, ◌≤◌, Bool, ◌==◌, ◌||◌, not, List, [], ◌∷◌, ◌++◌, length, replicate, flat_map}
use Rattle.std.specs.Prelude.{slice_get, Some}
use Rattle.std.specs.Char.{is_ascii_digit}
use Rattle.std.specs.List.{AllZip, list_any}
use Rattle.grid.specs.Board.{Board}
use Rattle.grid.specs.declared.cell.Cell.{Cell}
use Rattle.grid.specs.declared.fault.LevelFault.{LevelFault}
use Rattle.grid.specs.declared.fault.LevelFault.TheVariants.{TooTall, TooWide}
use Rattle.grid.specs.declared.limits.TheConstants.{MAX_ROWS, MAX_COLS}
use Rattle.xsb.specs.declared.places.Excess.{Excess}
use Rattle.xsb.specs.declared.places.Excess.TheVariants.{Rows, Columns}
use Rattle.xsb.specs.declared.places.RowPlace.{RowPlace}
use Rattle.xsb.specs.Boards.{board_of, cols_of}
use Rattle.xsb.specs.Lines.{lines_of_text}
use Rattle.xsb.specs.Rows.{IsRowLine, IsTextLine, pieces_of}

-- the line is line n of the bytes, counted from 1
abbrev pub IsLineOf : List ℕ → ℕ → List ℕ → Type 0
IsLineOf bytes n line = slice_get (lines_of_text bytes) (n - 1) ≡ Some line

-- the byte is a digit or a bar
abbrev pub is_packing : ℕ → Bool
is_packing b = is_ascii_digit b || (b == 124)

-- a line without digits and bars: if it is a row line, each byte stands for one cell
abbrev pub is_plain : List ℕ → Bool
is_plain line = not (list_any is_packing line)

-- the places of the rows of some row lines, the first of which is line n: each row has the number of its line, and
-- whether that is plain
abbrev pub row_places : ℕ → List (List ℕ) → List RowPlace
row_places n [] = []
row_places n (line ∷ lines) =
    replicate (length (pieces_of line)) (record { line = n; plain = is_plain line }) ++ row_places (suc n) lines

-- the board that is found at a line of the bytes, and the places of its rows: its lines are row lines, and reach to the
-- next text line or to the end
pub record IsBoardAt (bytes : List ℕ) (first_line : ℕ) (board : Board) (places : List RowPlace) : Type 0 where
  pub before : List (List ℕ)
  pub lines : List (List ℕ)
  pub after : List (List ℕ)
  pub whole : lines_of_text bytes ≡ before ++ (lines ++ after)
  pub first : first_line ≡ suc (length before)
  pub some : 0 < length lines
  pub ends : (next : List ℕ) (rest : List (List ℕ)) → after ≡ next ∷ rest → IsTextLine next
  pub rows : List (List (List Cell))
  pub each : AllZip IsRowLine lines rows
  pub made : board ≡ board_of (flat_map (λ r. r) rows)
  pub places_are : places ≡ row_places first_line lines

-- line n is the first up to which the rows of a board have more than `most` of something, rows or columns; the lines of
-- the board begin at line `first`
pub record IsFirstPast (count : List (List Cell) → ℕ) (most : ℕ) (lines : List (List ℕ)) (first n : ℕ) : Type 0 where
  pub before : List (List ℕ)
  pub line : List ℕ
  pub after : List (List ℕ)
  pub whole : lines ≡ before ++ line ∷ after
  pub number : n ≡ first + length before
  pub rows : List (List (List Cell))
  pub each : AllZip IsRowLine before rows
  pub few : count (flat_map (λ r. r) rows) ≤ most
  pub more : List (List Cell)
  pub next : IsRowLine line more
  pub many : most < count (flat_map (λ r. r) rows ++ more)

-- where a board of these lines is too large
abbrev pub IsExcess : List (List ℕ) → ℕ → Excess → Type 0
IsExcess lines first (Rows n) = IsFirstPast length MAX_ROWS lines first n
IsExcess lines first (Columns n) = IsFirstPast cols_of MAX_COLS lines first n

-- the fault of a board that is too large
abbrev pub excess_fault : Excess → LevelFault
excess_fault (Rows n) = TooTall
excess_fault (Columns n) = TooWide
