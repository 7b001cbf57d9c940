-- The first item of a piece.
use Rattle.std.proofs.Common.{◌≡◌, ℕ, Bool, true, false, List, [], ◌∷◌, ◌++◌, length, replicate, Some, None, refl, sym}
use Rattle.std.proofs.Common.{ap, ◌∙◌, arith, append_assoc, take, drop, take-append-drop, subst}
use Rattle.std.specs.Char.{is_ascii_digit}
use Rattle.std.specs.List.{prefix_len}
use Rattle.std.proofs.lemmas.Bool.Decides.{nat_tests}
use Rattle.grid.specs.declared.cell.Cell.{Cell}
use Rattle.counts.specs.Counts.{AreDigits, begins_with_digit, Means}
use Rattle.counts.specs.NoCount.{IsNoCount}
use Rattle.counts.proofs.lemmas.Digits.{digits_in_front, no_digit_behind, one_run, digits_of_count, means_or_not}
use Rattle.xsb.specs.Rows.{IsItem, counted}
use Rattle.xsb.specs.inside.Bytes.{cell_of}
use Rattle.xsb.specs.inside.Reading.{HasNoItem, BeginsWithItem}
use Rattle.xsb.proofs.CellBytes.{cell_that_stands, stands_by_cell}

-- a digit is no cell byte
pub cell_of-digit : (b : ℕ) → is_ascii_digit b ≡ true → cell_of b ≡ None
cell_of-digit b h = grind (arith, nat_tests)

pub none≢some : {A : Type 0} {x : A} → None ≡ Some x → ⊥
none≢some e = cc

cell-is_no_digit : (b : ℕ) (c : Cell) (t : Bool) → is_ascii_digit b ≡ t → cell_of b ≡ Some c → t ≡ false
cell-is_no_digit b c true e f = let n = cell_of-digit b e in cc
cell-is_no_digit b c false e f = refl

-- what an item is: digits, none or a count, and a cell byte
pub record ItemShape (item : List ℕ) (cells : List Cell) : Type 0 where
  pub digits : List ℕ
  pub byte : ℕ
  pub count : ℕ
  pub cell : Cell
  pub whole : item ≡ digits ++ byte ∷ []
  pub decimal : AreDigits digits
  pub other : is_ascii_digit byte ≡ false
  pub counts : Means digits count
  pub cell_is : cell_of byte ≡ Some cell
  pub cells_are : cells ≡ replicate count cell

pub shape-item : {item : List ℕ} {cells : List Cell} → IsItem item cells → ItemShape item cells
shape-item (counted digits n b c means e) = record {
  digits = digits;
  byte = b;
  count = n;
  cell = c;
  whole = refl;
  decimal = digits_of_count digits means.0;
  other = cell-is_no_digit b c _ refl (cell_that_stands b c e);
  counts = means;
  cell_is = cell_that_stands b c e;
  cells_are = refl;
}

pub begins-with_item : (piece digits rest : List ℕ) (b n : ℕ) (c : Cell) → piece ≡ digits ++ b ∷ rest → Means digits n
    → cell_of b ≡ Some c
    → BeginsWithItem piece (record { count = n; cell = c }) rest
begins-with_item piece digits rest b n c e counts cell = (
  digits ++ b ∷ [],
  counted digits n b c counts (stands_by_cell b c cell),
  e
      ∙ sym (append_assoc digits (b ∷ []) rest),
)

-- where the bytes after the digits at its front don't end an item, a piece begins with none
pub no-item : (piece digits rest : List ℕ) → piece ≡ digits ++ rest → AreDigits digits → begins_with_digit rest ≡ false
    → ((b n : ℕ) (more : List ℕ) (c : Cell) → rest ≡ b ∷ more → cell_of b ≡ Some c → Means digits n → ⊥)
    → HasNoItem piece
no-item piece digits rest e are ends fault item after cells is at =
    let s = shape-item is in
    let front : digits ++ rest ≡ s.digits ++ s.byte ∷ after =
    sym e ∙ at ∙ ap (λ i. i ++ after) s.whole ∙ append_assoc s.digits (s.byte ∷ []) after in
    let same = one_run digits s.digits rest (s.byte ∷ after) are s.decimal ends s.other front in
    fault s.byte s.count after s.cell same.more s.cell_is (subst (λ ds. Means ds s.count) (sym same.digits) s.counts)

-- what the parts into which a piece is cut at its first byte that is no digit are
pub record IsCutAtDigits (piece digits rest : List ℕ) : Type 0 where
  pub whole : piece ≡ digits ++ rest
  pub decimal : AreDigits digits
  pub ends : begins_with_digit rest ≡ false

pub cut-at_digits : (piece digits rest : List ℕ) (n : ℕ) → n ≡ prefix_len is_ascii_digit piece → digits ≡ take n piece
    → rest ≡ drop n piece
    → IsCutAtDigits piece digits rest
cut-at_digits piece digits rest n e f g = record {
  whole = rw (f, g) (sym (take-append-drop n piece));
  decimal = rw (f, e) (digits_in_front piece);
  ends = rw (g, e) (no_digit_behind piece);
}

pub no-item_empty : {piece digits rest : List ℕ} → IsCutAtDigits piece digits rest → length rest ≡ 0 → HasNoItem piece
no-item_empty {piece} {digits} {rest} is none =
    no-item piece digits rest is.whole is.decimal is.ends (λ b n more c e. λ f g. absurd (let l = ap length e in
    omega arith))

pub no-item_cell : {piece digits rest : List ℕ} (b : ℕ) (after : List ℕ) → IsCutAtDigits piece digits rest
    → rest ≡ b ∷ after → cell_of b ≡ None
    → HasNoItem piece
no-item_cell {piece} {digits} {rest} b after is at none =
    no-item piece digits rest is.whole is.decimal is.ends (λ d n more c e f g. let same : d ≡ b = cc in
    none≢some (sym none ∙ ap cell_of (sym same) ∙ f))

pub no-item_count : {piece digits rest : List ℕ} → IsCutAtDigits piece digits rest → IsNoCount digits → HasNoItem piece
no-item_count {piece} {digits} {rest} is bad =
    no-item piece digits rest is.whole is.decimal is.ends (λ d n more c e f g. means_or_not digits n g bad)
