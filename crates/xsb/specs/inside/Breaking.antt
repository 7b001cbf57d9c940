-- How far a reader of broken rows has come.
use Rattle.std.specs.Prelude.{◌≡◌, ℕ, ◌-◌, true, List, length}
use Rattle.xsb.specs.declared.breaks.BrokenRows.{BrokenRows}
use Rattle.xsb.specs.Breaks.{IsRowAt}
use Rattle.xsb.specs.inside.Cursors.{IsAt}

-- the next line is known, and the line before it is a row line if the reader says so
pub record IsPastLine (bytes : List ℕ) (rows : BrokenRows) : Type 0 where
  pub lines : IsAt bytes rows.lines
  pub after_row : rows.after_row ≡ true → IsRowAt bytes (rows.lines.number - 1)

-- no more broken rows come than there are lines left
abbrev pub rows_left : BrokenRows → ℕ
rows_left rows = length rows.lines.rest
