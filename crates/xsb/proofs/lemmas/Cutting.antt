-- Lines are cut into boards and gaps, also those that are left of a collection that was read in part.
use Rattle.std.proofs.Common.{◌≡◌, ℕ, ◌+◌, List, [], ◌∷◌, ◌++◌, length, flat_map, refl, ap, ◌∙◌, arith, subst, ⊎_elim}
use Rattle.std.specs.List.{AllZip, AllByRecursion}
use Rattle.grid.specs.declared.cell.Cell.{Cell}
use Rattle.xsb.specs.Boards.{board_of}
use Rattle.xsb.specs.Collection.{Found, Part, IsPart, AreSeparated, AreParts, AreFound, IsCollection}
use Rattle.xsb.specs.Names.{name_of}
use Rattle.xsb.specs.Rows.{IsRowLine, IsTextLine}
use Rattle.xsb.specs.declared.reader.Collection.{Collection}
use Rattle.xsb.specs.inside.Gaps.{BeginsBoard}
use Rattle.xsb.specs.inside.Progress.{HasRead}
use Rattle.xsb.specs.inside.Reading.{cut_lines}
use Rattle.xsb.proofs.RowOrText.{decide-line}

-- a line that is rows
abbrev pub HasRowLine : List ℕ → Type 0
HasRowLine line = (rows : List (List Cell)) × IsRowLine line rows

-- lines can be cut
pub record Cut (lines : List (List ℕ)) : Type 0 where
  pub gap : List (List ℕ)
  pub parts : List Part
  pub is : AreParts lines gap parts

cut-text : (line : List ℕ) (lines : List (List ℕ)) → IsTextLine line → Cut lines → Cut (line ∷ lines)
cut-text line lines text cut = record {
  gap = line ∷ cut.gap;
  parts = cut.parts;
  is = record { whole = ap (λ l. line ∷ l) cut.is.whole; texts = (text, cut.is.texts); boards = cut.is.boards; apart = cut.is.apart };
}

apart-grown : (line : List ℕ) (part : Part) (parts : List Part) → AreSeparated (part ∷ parts) →
    AreSeparated (record { board = line ∷ part.board; gap = part.gap } ∷ parts)
apart-grown line part [] apart = tt
apart-grown line part (q ∷ parts) apart = apart

apart-new : (line : List ℕ) (g : List ℕ) (gap : List (List ℕ)) (parts : List Part) → AreSeparated parts →
    AreSeparated (record { board = line ∷ []; gap = g ∷ gap } ∷ parts)
apart-new line g gap [] apart = tt
apart-new line g gap (q ∷ parts) apart = (omega arith, apart)

cut-row : (line : List ℕ) (lines : List (List ℕ)) → HasRowLine line → (gap : List (List ℕ)) (parts : List Part) → AreParts lines gap parts → Cut (line ∷ lines)
cut-row line lines row [] [] is = record {
  gap = [];
  parts = record { board = line ∷ []; gap = [] } ∷ [];
  is = record { whole = ap (λ l. line ∷ l) is.whole; texts = tt; boards = (record { some = omega arith; board = (row, tt); gap = tt }, tt); apart = tt };
}
cut-row line lines row [] (part ∷ parts) is = record {
  gap = [];
  parts = record { board = line ∷ part.board; gap = part.gap } ∷ parts;
  is = record {
    whole = ap (λ l. line ∷ l) is.whole;
    texts = tt;
    boards = (record { some = omega arith; board = (row, is.boards.0.board); gap = is.boards.0.gap }, is.boards.1);
    apart = apart-grown line part parts is.apart;
  };
}
cut-row line lines row (g ∷ gap) parts is = record {
  gap = [];
  parts = record { board = line ∷ []; gap = g ∷ gap } ∷ parts;
  is = record {
    whole = ap (λ l. line ∷ l) is.whole;
    texts = tt;
    boards = (record { some = omega arith; board = (row, tt); gap = is.texts }, is.boards);
    apart = apart-new line g gap parts is.apart;
  };
}

pub cut-lines : (lines : List (List ℕ)) → Cut lines
cut-lines [] = record { gap = []; parts = []; is = record { whole = refl; texts = tt; boards = tt; apart = tt } }
cut-lines (line ∷ lines) =
    let rest = cut-lines lines in
    ⊎_elim (λ row. cut-row line lines row rest.gap rest.parts rest.is) (λ text. cut-text line lines text rest) (decide-line line)

find-rows : (board : List (List ℕ)) → AllByRecursion HasRowLine board → (rows : List (List (List Cell))) × AllZip IsRowLine board rows
find-rows [] all = ([], tt)
find-rows (line ∷ board) all = let rest = find-rows board all.1 in (all.0.0 ∷ rest.0, (all.0.1, rest.1))

pub find-boards : (line : ℕ) (before : List (List ℕ)) (parts : List Part) → AllByRecursion IsPart parts → (founds : List Found) × AreFound line before parts founds
find-boards line before [] boards = ([], tt)
find-boards line before (part ∷ parts) boards =
    let rows = find-rows part.board boards.0.board in
    let rest = find-boards (line + length (part.board ++ part.gap)) part.gap parts boards.1 in (
      record { name = name_of before part.gap; first_line = line; board = board_of (flat_map (λ r. r) rows.0) } ∷ rest.0,
      (record { name = refl; first_line = refl; board = (rows.0, rows.1, refl) }, rest.1),
    )

-- no text line comes before a board
no-gap : (lines gap : List (List ℕ)) (parts : List Part) → AreParts lines gap parts → BeginsBoard lines → gap ≡ []
no-gap lines [] parts is begins = refl
no-gap [] (g ∷ gap) parts is begins = absurd (let e = is.whole in cc)
no-gap (line ∷ lines) (g ∷ gap) parts is begins =
    let e = is.whole in
    let same : line ≡ g = cc in
    absurd (is.texts.0 begins.0 (subst (λ (l : List ℕ). IsRowLine l begins.0) same begins.1))

-- what was read is the first boards of the collection
pub rest_of : (bytes : List ℕ) (left : Collection) (founds : List Found) → HasRead bytes left founds →
    (others : List Found) × IsCollection bytes (founds ++ others)
rest_of bytes left founds is =
    let lines = cut_lines left.lines.rest in
    let cut = cut-lines lines in
    let none : cut.gap ≡ [] = no-gap lines cut.gap cut.parts cut.is is.begins in
    let found = find-boards left.lines.number is.texts cut.parts cut.is.boards in (
      found.0,
      is.onto cut.parts found.0 (record {
        whole = cut.is.whole ∙ ap (λ (g : List (List ℕ)). g ++ flat_map (λ (part : Part). part.board ++ part.gap) cut.parts) none;
        boards = cut.is.boards;
        apart = cut.is.apart;
        found = found.1;
      }),
    )
