-- What the reader keeps of a gap.
use Rattle.std.specs.Prelude.{◌≡◌, ℕ, ◌+◌, ⊤, List, [], ◌∷◌, ◌++◌, length, Option, codes, option_copied}
use Rattle.std.specs.List.{AllByRecursion}
use Rattle.grid.specs.declared.cell.Cell.{Cell}
use Rattle.xsb.specs.declared.lines.Lines.{Lines}
use Rattle.xsb.specs.declared.names.Gap.{Gap}
use Rattle.xsb.specs.Names.{after_prefix, first_some, last_some, name_of}
use Rattle.xsb.specs.Rows.{IsRowLine, IsTextLine}
use Rattle.xsb.specs.inside.Reading.{cut_lines}

-- what a line whose first byte is `;` names
abbrev pub comment_of : List ℕ → Option (List ℕ)
comment_of line = after_prefix (codes ";") line

-- what a line that begins with `Title:` names
abbrev pub title_of : List ℕ → Option (List ℕ)
title_of line = after_prefix (codes "Title:") line

-- the last comment and the first title among the lines of a gap
pub record IsGap (gap : Gap) (lines : List (List ℕ)) : Type 0 where
  pub last_comment : option_copied gap.comment ≡ last_some comment_of lines
  pub first_title : option_copied gap.title ≡ first_some title_of lines

-- the name of a board between the lines of two gaps
abbrev pub IsNameBetween : Gap → Gap → List ℕ → Type 0
IsNameBetween before after name =
    (before_lines after_lines : List (List ℕ)) → IsGap before before_lines → IsGap after after_lines →
    name ≡ name_of before_lines after_lines

-- a row line comes first, or no line
abbrev pub BeginsBoard : List (List ℕ) → Type 0
BeginsBoard [] = ⊤
BeginsBoard (line ∷ lines) = (rows : List (List Cell)) × IsRowLine line rows

-- a text line comes first, or no line
abbrev pub BeginsGap : List (List ℕ) → Type 0
BeginsGap [] = ⊤
BeginsGap (line ∷ lines) = IsTextLine line

-- some text lines are read, and the gap keeps their last comment and first title
pub record ReadsTexts (old new : Lines) (gap : Gap) (texts : List (List ℕ)) : Type 0 where
  pub all : AllByRecursion IsTextLine texts
  pub whole : cut_lines old.rest ≡ texts ++ cut_lines new.rest
  pub number : new.number ≡ old.number + length texts
  pub told : IsGap gap texts

-- the text lines up to a row line or the end are read
pub record ReadsGap (old new : Lines) (gap : Gap) : Type 0 where
  pub texts : List (List ℕ)
  pub read : ReadsTexts old new gap texts
  pub ends : BeginsBoard (cut_lines new.rest)
