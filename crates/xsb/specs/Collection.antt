-- The boards of a collection: a relation between its bytes and its boards, and how a board is judged.
use Rattle.std.specs.Prelude.{◌≡◌, ℕ, suc, ◌+◌, ◌<◌, ⊤, List, [], ◌∷◌, ◌++◌, length, flat_map, Result, Ok, Err}
use Rattle.std.specs.List.{AllZip, AllByRecursion}
use Rattle.grid.specs.declared.cell.Cell.{Cell}
use Rattle.grid.specs.declared.fault.LevelFault.{LevelFault}
use Rattle.grid.specs.Board.{Board}
use Rattle.grid.specs.Lawful.{IsLevel, HasFault}
use Rattle.xsb.specs.Lines.{lines_of_text}
use Rattle.xsb.specs.Rows.{IsRowLine, IsTextLine}
use Rattle.xsb.specs.Boards.{board_of}
use Rattle.xsb.specs.Names.{name_of}

-- an item of a collection: a board with its name and the number of its first line, counted from 1
pub record Found : Type 0 where
  pub name : List ℕ
  pub first_line : ℕ
  pub board : Board

-- the lines of a board, and the lines of the gap after it
pub record Part : Type 0 where
  pub board : List (List ℕ)
  pub gap : List (List ℕ)

-- a board is made of row lines, at least one, and a gap of text lines
pub record IsPart (part : Part) : Type 0 where
  pub some : 0 < length part.board
  pub board : AllByRecursion (λ line. (rows : List (List Cell)) × IsRowLine line rows) part.board
  pub gap : AllByRecursion IsTextLine part.gap

-- a text line separates two boards, so that each board is a longest run of row lines
abbrev pub AreSeparated : List Part → Type 0
AreSeparated (part ∷ next ∷ parts) = (0 < length part.gap) × AreSeparated (next ∷ parts)
AreSeparated parts = ⊤

-- the lines are a gap, and then boards, each with the gap after it
pub record AreParts (lines gap : List (List ℕ)) (parts : List Part) : Type 0 where
  pub whole : lines ≡ gap ++ flat_map (λ part. part.board ++ part.gap) parts
  pub texts : AllByRecursion IsTextLine gap
  pub boards : AllByRecursion IsPart parts
  pub apart : AreSeparated parts

-- the board found in a part that begins at `line`, after the gap `before`: its rows are those of the part's lines, in
-- order
pub record IsFoundBoard (line : ℕ) (before : List (List ℕ)) (part : Part) (found : Found) : Type 0 where
  pub name : found.name ≡ name_of before part.gap
  pub first_line : found.first_line ≡ line
  pub board : (rows : List (List (List Cell))) × AllZip IsRowLine part.board rows ×
      (found.board ≡ board_of (flat_map (λ r. r) rows))

-- the boards found in the parts, in order; the first part begins at `line`, after the gap `before`
abbrev pub AreFound : ℕ → List (List ℕ) → List Part → List Found → Type 0
AreFound line before [] [] = ⊤
AreFound line before (part ∷ parts) (found ∷ founds) =
    IsFoundBoard line before part found × AreFound (line + length (part.board ++ part.gap)) part.gap parts founds
AreFound line before parts founds = ⊥

-- the bytes are a collection of these boards: its lines are cut into gaps and boards, and these are what is found
unfoldable pub IsCollection : List ℕ → List Found → Type 0
IsCollection bytes founds =
    (gap : List (List ℕ)) × (parts : List Part) × AreParts (lines_of_text bytes) gap parts ×
    AreFound (suc (length gap)) gap parts founds

-- the board is a lawful level and that level is given, or it has the fault that is given
abbrev pub IsJudged : Board → Result Board LevelFault → Type 0
IsJudged board (Ok level) = (level ≡ board) × IsLevel level
IsJudged board (Err fault) = HasFault board fault
