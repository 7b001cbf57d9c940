-- How far a reader of lines has come.
use Rattle.std.specs.Prelude.{◌≡◌, ℕ, suc, List, ◌++◌, length}
use Rattle.xsb.specs.declared.lines.Lines.{Lines}
use Rattle.xsb.specs.Lines.{lines_of_text}
use Rattle.xsb.specs.inside.Reading.{cut_lines}

-- the lines are those of the bytes from the one with their number on
pub record IsAt (bytes : List ℕ) (lines : Lines) : Type 0 where
  pub before : List (List ℕ)
  pub whole : lines_of_text bytes ≡ before ++ cut_lines lines.rest
  pub number : lines.number ≡ suc (length before)
