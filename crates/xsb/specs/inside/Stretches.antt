-- What the reader keeps of a board's lines.
use Rattle.std.specs.Prelude.{◌≡◌, ℕ, ◌+◌, ◌<◌, ◌≤◌, nat_lt, Bool, cond, List, ◌++◌, length, flat_map, Option, Some, None}
use Rattle.std.specs.Prelude.{MatchOption}
use Rattle.std.specs.List.{AllZip}
use Rattle.grid.specs.declared.cell.Cell.{Cell}
use Rattle.grid.specs.declared.limits.TheConstants.{MAX_ROWS, MAX_COLS}
use Rattle.xsb.specs.declared.lines.Lines.{Lines}
use Rattle.xsb.specs.declared.boards.Beyond.{Beyond}
use Rattle.xsb.specs.declared.boards.Stretch.{Stretch}
use Rattle.xsb.specs.declared.sizes.Size.{Size}
use Rattle.xsb.specs.Boards.{cols_of, padded}
use Rattle.xsb.specs.Places.{IsFirstPast}
use Rattle.xsb.specs.Rows.{IsRowLine}
use Rattle.xsb.specs.inside.Reading.{cut_lines, IsSize}
use Rattle.xsb.specs.inside.Gaps.{BeginsGap}

-- the rows of some row lines, in order
pub record AreRowLines (lines : List (List ℕ)) (rows : List (List Cell)) : Type 0 where
  pub by_line : List (List (List Cell))
  pub each : AllZip IsRowLine lines by_line
  pub all : rows ≡ flat_map (λ r. r) by_line

-- a line that was found, or else line n if it is found
abbrev pub first_of : Option ℕ → Bool → ℕ → Option ℕ
first_of (Some line) is_found n = Some line
first_of None is_found n = cond is_found (Some n) None

-- the lines up to which a board is too large, after line n, up to which its rows have this size
abbrev pub beyond_with : Beyond → Size → ℕ → Beyond
beyond_with beyond size n = record {
  rows = first_of beyond.rows (nat_lt MAX_ROWS size.rows) n;
  cols = first_of beyond.cols (nat_lt MAX_COLS size.cols) n;
}

-- the first of these lines up to which the rows have more than the most of something; none if they have not
abbrev pub IsPastAt : (List (List Cell) → ℕ) → ℕ → List (List ℕ) → List (List Cell) → ℕ → Option ℕ → Type 0
IsPastAt count most lines rows first found =
    MatchOption found (count rows ≤ most) (λ n. IsFirstPast count most lines first n × (most < count rows))

-- the lines up to which the rows of these lines are too large
pub record ArePast (lines : List (List ℕ)) (rows : List (List Cell)) (first : ℕ) (beyond : Beyond) : Type 0 where
  pub tall : IsPastAt length MAX_ROWS lines rows first beyond.rows
  pub wide : IsPastAt cols_of MAX_COLS lines rows first beyond.cols

-- the rows of a stretch, and their size
pub record HasRows (stretch : Stretch) (rows : List (List Cell)) : Type 0 where
  pub some : 0 < stretch.count
  pub lines : List (List ℕ)
  pub after : List (List ℕ)
  pub whole : cut_lines stretch.lines ≡ lines ++ after
  pub count : length lines ≡ stretch.count
  pub rows_are : AreRowLines lines rows
  pub size : IsSize stretch.size rows
  pub past : ArePast lines rows stretch.first_line stretch.beyond

-- the cells of a stretch by rows, all rows as long as the longest
abbrev pub AreCellsOf : Stretch → List Cell → Type 0
AreCellsOf stretch cells = (rows : List (List Cell)) → HasRows stretch rows → cols_of rows ≤ stretch.size.cols →
    cells ≡ flat_map (padded stretch.size.cols) rows

-- some row lines are read
pub record ReadsRows (old new : Lines) (size : Size) (lines : List (List ℕ)) (rows : List (List Cell)) : Type 0 where
  pub whole : cut_lines old.rest ≡ lines ++ cut_lines new.rest
  pub number : new.number ≡ old.number + length lines
  pub rows_are : AreRowLines lines rows
  pub size_is : IsSize size rows

-- the row lines up to a text line or the end are read
pub record ReadsBoard (old new : Lines) (stretch : Stretch) : Type 0 where
  pub lines : List (List ℕ)
  pub rows : List (List Cell)
  pub read : ReadsRows old new stretch.size lines rows
  pub some : 0 < length lines
  pub first_line : stretch.first_line ≡ old.number
  pub count : stretch.count ≡ length lines
  pub from : stretch.lines ≡ old.rest
  pub past : ArePast lines rows stretch.first_line stretch.beyond
  pub ends : BeginsGap (cut_lines new.rest)

-- no row line comes next
pub record ReadsNoBoard (old new : Lines) : Type 0 where
  pub same : cut_lines new.rest ≡ cut_lines old.rest
  pub ends : BeginsGap (cut_lines old.rest)
