-- How far a collection was read.
use Rattle.std.specs.Prelude.{◌≡◌, ℕ, List, [], ◌∷◌, ◌++◌, length, flat_map, Option, Some, None}
use Rattle.std.specs.List.{AllByRecursion}
use Rattle.xsb.specs.declared.entry.BoardEntry.{BoardEntry}
use Rattle.xsb.specs.declared.reader.Collection.{Collection}
use Rattle.xsb.specs.Collection.{Found, Part, IsPart, AreSeparated, AreFound, IsCollection}
use Rattle.xsb.specs.Entries.{IsBoardEntry}
use Rattle.xsb.specs.inside.Gaps.{IsGap, BeginsBoard}
use Rattle.xsb.specs.inside.Reading.{cut_lines}

-- the lines from a board on, after a gap, have these boards
pub record Continues (line : ℕ) (before lines : List (List ℕ)) (parts : List Part) (founds : List Found) : Type 0 where
  pub whole : lines ≡ flat_map (λ part. part.board ++ part.gap) parts
  pub boards : AllByRecursion IsPart parts
  pub apart : AreSeparated parts
  pub found : AreFound line before parts founds

-- the bytes were read as far as these boards, the first of their collection: the boards of the lines that are left are
-- the others
pub record HasRead (bytes : List ℕ) (left : Collection) (founds : List Found) : Type 0 where
  pub texts : List (List ℕ)
  pub gap : IsGap left.before texts
  pub begins : BeginsBoard (cut_lines left.lines.rest)
  pub onto : (parts : List Part) (others : List Found) →
      Continues left.lines.number texts (cut_lines left.lines.rest) parts others →
      IsCollection bytes (founds ++ others)

-- the next board, and the collection after it; or these boards are all
abbrev pub GivesNext : List ℕ → List Found → Collection → Option BoardEntry → Type 0
GivesNext bytes founds after None = IsCollection bytes founds
GivesNext bytes founds after (Some entry) =
    (found : Found) × IsBoardEntry entry found × HasRead bytes after (founds ++ found ∷ [])

-- a collection has no more boards than it has lines left
abbrev pub lines_left : Collection → ℕ
lines_left left = length left.lines.rest
