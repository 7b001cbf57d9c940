-- Gaps and boards, as they are read line by line.
use Rattle.std.proofs.Common.{◌≡◌, ℕ, ◌+◌, List, [], ◌∷◌, ◌++◌, drop, flat_map, refl, sym, ap, ◌∙◌, arith, length-append}
use Rattle.std.proofs.Common.{append_assoc}
use Rattle.std.specs.List.{AllByRecursion}
use Rattle.std.proofs.lemmas.List.{append-nil}
use Rattle.std.proofs.lemmas.List.Concat.{flat_map-append}
use Rattle.grid.specs.declared.cell.Cell.{Cell}
use Rattle.bstr.specs.declared.iters.LinesWithTerminator.{LinesWithTerminator}
use Rattle.xsb.specs.declared.boards.Beyond.{Beyond}
use Rattle.xsb.specs.declared.lines.Lines.{Lines}
use Rattle.xsb.specs.declared.sizes.Size.{Size}
use Rattle.xsb.specs.Rows.{IsRowLine}
use Rattle.xsb.specs.inside.Reading.{cut_line, cut_lines, IsSize}
use Rattle.xsb.specs.inside.Stretches.{ArePast, AreRowLines, ReadsRows, beyond_with}
use Rattle.xsb.proofs.PastLimits.{ArePast-more}
use Rattle.xsb.proofs.RowLines.{AllZip-last}

-- what the reading of a board has read so far
pub record IsRead (old new : Lines) (size : Size) (beyond : Beyond) (first_line : ℕ) (first : LinesWithTerminator) : Type 0 where
  pub lines : List (List ℕ)
  pub rows : List (List Cell)
  pub read : ReadsRows old new size lines rows
  pub number : first_line ≡ old.number
  pub first_is : first ≡ old.rest
  pub past : ArePast lines rows first_line beyond

pub drop-zero : {A : Type 0} (xs : List A) → drop 0 xs ≡ xs
drop-zero [] = refl
drop-zero (x ∷ xs) = refl

-- the line that comes next, and those after it
pub next-line : (rest after : List (List ℕ)) (line : List ℕ) → (raw : List ℕ) × (more : List (List ℕ)) × (rest ≡ raw ∷ more) × (line ≡ cut_line raw) →
    after ≡ drop 1 rest → cut_lines rest ≡ line ∷ cut_lines after
next-line rest after line next e =
    let more : after ≡ next.1 = e ∙ ap (drop 1) next.2 ∙ drop-zero next.1 in
    ap cut_lines next.2 ∙ ap (λ l. l ∷ cut_lines next.1) (sym next.3) ∙ ap (λ m. line ∷ cut_lines m) (sym more)

AllByRecursion-last : {A : Type 0} (P : A → Type 0) (xs : List A) (x : A) → AllByRecursion P xs → P x → AllByRecursion P (xs ++ x ∷ [])
AllByRecursion-last P [] x all is = (is, tt)
AllByRecursion-last P (y ∷ xs) x all is = (all.0, AllByRecursion-last P xs x all.1 is)

-- the rows of one line more
AreRowLines-more : (lines : List (List ℕ)) (rows others : List (List Cell)) (line : List ℕ) → AreRowLines lines rows → IsRowLine line others →
    AreRowLines (lines ++ line ∷ []) (rows ++ others)
AreRowLines-more lines rows others line is row = record {
  by_line = is.by_line ++ others ∷ [];
  each = AllZip-last IsRowLine lines is.by_line line others is.each row;
  all = ap (λ r. r ++ others) is.all ∙ ap (λ r. flat_map (λ r. r) is.by_line ++ r) (sym (append-nil others)) ∙
      sym (flat_map-append (λ r. r) is.by_line (others ∷ []));
}

pub IsRead-more : {old mid : Lines} {size : Size} {beyond : Beyond} {first_line : ℕ} {first : LinesWithTerminator} (new : Lines) (more fresh : Size)
    (onward : Beyond) (line : List ℕ) → IsRead old mid size beyond first_line first →
    (raw : List ℕ) × (left : List (List ℕ)) × (mid.rest ≡ raw ∷ left) × (line ≡ cut_line raw) → (rows : List (List Cell)) × IsRowLine line rows ×
    IsSize more rows → new.rest ≡ drop 1 mid.rest → new.number ≡ mid.number + 1 →
    ((rows others : List (List Cell)) → IsSize size rows → IsSize more others → IsSize fresh (rows ++ others)) →
    onward ≡ beyond_with beyond fresh mid.number → IsRead old new fresh onward first_line first
IsRead-more {old} {mid} {size} {beyond} {first_line} {first} new more fresh onward line is next row e f sizes g =
    let long = length-append is.lines (line ∷ []) in let was = is.read.number in let begun = is.number in
    let sized = sizes is.rows row.0 is.read.size_is row.2 in
    record {
      lines = is.lines ++ line ∷ [];
      rows = is.rows ++ row.0;
      read = record {
        whole = is.read.whole ∙ ap (λ l. is.lines ++ l) (next-line mid.rest new.rest line next e) ∙
            sym (append_assoc is.lines (line ∷ []) (cut_lines new.rest));
        number = omega arith;
        rows_are = AreRowLines-more is.lines is.rows row.0 line is.read.rows_are row.1;
        size_is = sized;
      };
      number = is.number;
      first_is = is.first_is;
      past = ArePast-more is.lines is.rows first_line mid.number beyond onward fresh line row.0 is.read.rows_are row.1 (omega arith) sized g is.past;
    }
