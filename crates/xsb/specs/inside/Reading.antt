-- What the parts of the reader answer.
use Rattle.std.specs.Prelude.{◌≡◌, ℕ, ◌-◌, ◌^◌, ◌≤◌, min, List, ◌∷◌, ◌++◌, length, replicate, map, flat_map}
use Rattle.grid.specs.declared.cell.Cell.{Cell}
use Rattle.xsb.specs.declared.items.Run.{Run}
use Rattle.xsb.specs.declared.sizes.Size.{Size}
use Rattle.xsb.specs.inside.Bytes.{line_feed, carriage_return}
use Rattle.xsb.specs.Lines.{without_last}
use Rattle.xsb.specs.Rows.{IsItem, IsRow, IsRowLine}
use Rattle.xsb.specs.Boards.{cols_of, cut_row, padded}

-- no item begins the piece
abbrev pub HasNoItem : List ℕ → Type 0
HasNoItem piece = (item rest : List ℕ) (cells : List Cell) → IsItem item cells → piece ≡ item ++ rest → ⊥

-- an item that stands for a run begins the piece, and the rest follows
abbrev pub BeginsWithItem : List ℕ → Run → List ℕ → Type 0
BeginsWithItem piece run rest = (item : List ℕ) × IsItem item (replicate run.count run.cell) × (piece ≡ item ++ rest)

-- a number, or the greatest that a `usize` holds where it is more
abbrev pub saturated : ℕ → ℕ
saturated n = min n (2 ^ 64 - 1)

-- the size of rows
pub record IsSize (size : Size) (rows : List (List Cell)) : Type 0 where
  pub row_count : size.rows ≡ saturated (length rows)
  pub col_count : size.cols ≡ saturated (cols_of rows)

-- the cells of the rows of a row line are appended, each row with floor on the right up to the columns
abbrev pub AppendsRows : List ℕ → ℕ → List Cell → List Cell → Type 0
AppendsRows line cols cells more =
    (rows : List (List Cell)) → IsRowLine line rows → cols_of rows ≤ cols → more ≡ cells ++ flat_map (padded cols) rows

-- the bytes are no row
abbrev pub IsNoRow : List ℕ → Type 0
IsNoRow piece = (row : List Cell) → ¬ (IsRow piece row)

-- the bytes are a row of n cells, without the floor at its end
abbrev pub IsRowOfLength : List ℕ → ℕ → Type 0
IsRowOfLength piece n = (row : List Cell) × IsRow piece row × (n ≡ saturated (length (cut_row row)))

-- a line without the line feed that ends it, and without a carriage return before that
abbrev pub cut_line : List ℕ → List ℕ
cut_line raw = without_last carriage_return (without_last line_feed raw)

abbrev pub cut_lines : List (List ℕ) → List (List ℕ)
cut_lines raw = map cut_line raw

-- the next line, without its end
abbrev pub IsNextLine : List (List ℕ) → List ℕ → Type 0
IsNextLine rest line = (raw : List ℕ) × (more : List (List ℕ)) × (rest ≡ raw ∷ more) × (line ≡ cut_line raw)
