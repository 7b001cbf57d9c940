-- Where a line breaks, and readers of lines.
use Rattle.std.proofs.Common.{◌≡◌, ℕ, ◌+◌, ◌-◌, ◌≤◌, Bool, true, false, List, [], ◌∷◌, ◌++◌, length, take, drop, refl, sym, ap, ◌∙◌, arith}
use Rattle.std.proofs.Common.{length-append, append_assoc, subst, slice_get, Option, Some, None, IfNone, MatchBool, is_some, inl, inr}
use Rattle.std.proofs.Common.{encode_utf8, eqb, ◌<◌}
use Rattle.std.proofs.lemmas.List.Folds.{length-prefix_len}
use Rattle.std.proofs.lemmas.Slice.Eq.{starts_is}
use Rattle.std.specs.List.{starts_with}
use Rattle.counts.specs.Counts.{AreDigits, decimal}
use Rattle.counts.specs.NoCount.{IsNoCount}
use Rattle.counts.proofs.lemmas.Digits.{digits_in_front}
use Rattle.std.proofs.lemmas.Bool.{cases_lt, eq-eqb, eqb-true, false≢true}
use Rattle.std.specs.Char.{is_ascii_digit}
use Rattle.std.specs.List.{prefix_len}
use Rattle.grid.specs.declared.cell.Cell.{Cell}
use Rattle.xsb.specs.Breaks.{AreItems, nothing, bar, item, IsBroken, IsCause, IsRowAt, HasFlaw, digits_of}
use Rattle.xsb.specs.Places.{IsLineOf}
use Rattle.xsb.specs.Rows.{IsRowLine, IsTextLine}
use Rattle.xsb.specs.declared.breaks.BrokenRows.{BrokenRows}
use Rattle.xsb.specs.declared.breaks.Cause.TheVariants.{ZeroCount}
use Rattle.xsb.specs.declared.breaks.Flaw.{Flaw}
use Rattle.xsb.specs.declared.items.Run.{Run}
use Rattle.xsb.specs.declared.lines.Lines.{Lines}
use Rattle.xsb.specs.inside.Breaking.{IsPastLine}
use Rattle.xsb.specs.inside.Cursors.{IsAt}
use Rattle.xsb.specs.inside.Reading.{BeginsWithItem, cut_lines, IsNextLine}
use Rattle.xsb.proofs.GapsAndBoards.{next-line}

-- the bytes so far are items and bars, and the rest follows
pub record IsPassed (line rest : List ℕ) : Type 0 where
  pub before : List ℕ
  pub items : AreItems before
  pub whole : line ≡ before ++ rest

pub IsPassed-none : (line : List ℕ) → IsPassed line line
IsPassed-none line = record { before = []; items = nothing; whole = refl }

pub IsPassed-bar : {line rest : List ℕ} (first : ℕ) (after : List ℕ) → IsPassed line rest → rest ≡ first ∷ after → first ≡ 124 → IsPassed line after
IsPassed-bar {line} {rest} first after is e f = record {
  before = is.before ++ 124 ∷ [];
  items = bar is.items;
  whole = is.whole ∙ ap (λ r. is.before ++ r) (e ∙ ap (λ b. b ∷ after) f) ∙ sym (append_assoc is.before (124 ∷ []) after);
}

pub IsPassed-item : {line rest : List ℕ} (run : Run) (after : List ℕ) → IsPassed line rest → BeginsWithItem rest run after → IsPassed line after
IsPassed-item {line} {rest} run after is begins = record {
  before = is.before ++ begins.0;
  items = item begins.0 _ is.items begins.1;
  whole = is.whole ∙ ap (λ r. is.before ++ r) begins.2 ∙ sym (append_assoc is.before begins.0 after);
}

slice_get-seam : {A : Type 0} (xs : List A) (y : A) (ys : List A) (n : ℕ) → n ≡ length xs → slice_get (xs ++ y ∷ ys) n ≡ Some y
slice_get-seam [] y ys n e = ap (slice_get (y ∷ ys)) e
slice_get-seam (x ∷ xs) y ys n e = ap (slice_get (x ∷ (xs ++ y ∷ ys))) e ∙ slice_get-seam xs y ys (length xs) refl

-- the line that comes next has the number of the reader
pub IsLineOf-next : {bytes : List ℕ} {lines : Lines} (line : List ℕ) → IsAt bytes lines → IsNextLine lines.rest line → IsLineOf bytes lines.number line
IsLineOf-next {bytes} {lines} line here next =
    let n = here.number in
    ap (λ l. slice_get l (lines.number - 1)) (here.whole ∙ ap (λ l. here.before ++ l) (next-line lines.rest _ line next refl)) ∙
    slice_get-seam here.before line _ (lines.number - 1) (omega arith)

-- one line on
pub IsAt-next : {bytes : List ℕ} {old : Lines} (new : Lines) (line : List ℕ) → IsAt bytes old → IsNextLine old.rest line → new.rest ≡ drop 1 old.rest →
    new.number ≡ old.number + 1 → IsAt bytes new
IsAt-next {bytes} {old} new line here next e f =
    let n = here.number in let long = length-append here.before (line ∷ []) in
    record {
      before = here.before ++ line ∷ [];
      whole = here.whole ∙ ap (λ l. here.before ++ l) (next-line old.rest new.rest line next e) ∙ sym (append_assoc here.before (line ∷ []) (cut_lines new.rest));
      number = omega arith;
    }

-- one to four digits that are no count write 0
no-count : (ds : List ℕ) → AreDigits ds → length ds ≤ 4 → IsNoCount ds → decimal ds ≡ 0
no-count ds all short bad = elim (cases_lt 0 (decimal ds)) [
  | inl some ↦ absurd (bad.1 (record { all = all; short = short; positive = omega arith }))
  | inr none ↦ omega arith
]

pub zero-count : (bytes : List ℕ) (n : ℕ) (o : Option ℕ) → n ≡ prefix_len is_ascii_digit bytes → (n ≡ 0 → ⊥) → n ≤ 4 → IfNone o (IsNoCount (take n bytes)) →
    is_some o ≡ false → IsCause bytes ZeroCount
zero-count bytes n (Some m) e other few bad none = absurd (false≢true (sym none))
zero-count bytes n None e other few bad none =
    let P : ℕ → Type 0 = λ m. IsNoCount (take m bytes) in
    let l = length-prefix_len is_ascii_digit bytes in
    let here = subst P e bad in
    (omega arith, no-count (digits_of bytes) (digits_in_front bytes) (omega arith) here)

row-true : (line : List ℕ) (b : Bool) → MatchBool b ((rows : List (List Cell)) × IsRowLine line rows) (IsTextLine line) → b ≡ true →
    (rows : List (List Cell)) × IsRowLine line rows
row-true line true is told = is
row-true line false is told = absurd (false≢true told)

-- the line that comes next is passed
pub IsPastLine-next : {bytes : List ℕ} {old : Lines} (new : BrokenRows) (line : List ℕ) → IsAt bytes old → IsNextLine old.rest line →
    new.lines.rest ≡ drop 1 old.rest → new.lines.number ≡ old.number + 1 →
    MatchBool new.after_row ((rows : List (List Cell)) × IsRowLine line rows) (IsTextLine line) → IsPastLine bytes new
IsPastLine-next {bytes} {old} new line here next e f is = record {
  lines = IsAt-next new.lines line here next e f;
  after_row = λ told. let n : new.lines.number - 1 ≡ old.number = omega arith in
      let row = row-true line new.after_row is told in
      subst (λ k. IsRowAt bytes k) (sym n) (line, IsLineOf-next line here next, row.0, row.1);
}

-- a line with a flaw
pub IsBroken-here : {bytes : List ℕ} (old new : BrokenRows) (line : List ℕ) (flaw : Flaw) (parts : Bool) → IsPastLine bytes old →
    IsNextLine old.lines.rest line → IsTextLine line × HasFlaw line flaw → new.lines.number ≡ old.lines.number + 1 →
    (parts ≡ true → old.after_row ≡ true) → (parts ≡ true → IsRowAt bytes new.lines.number) →
    IsBroken bytes (record { line = old.lines.number; flaw = flaw; parts = parts })
IsBroken-here {bytes} old new line flaw parts past next is number before after = record {
  text = line;
  is_line = IsLineOf-next line past.lines next;
  is_text = is.0;
  flaw = is.1;
  parts = λ told. (past.after_row (before told), subst (λ n. IsRowAt bytes n) number (after told));
}

-- a character whose bytes come first
pub spelled-first : (bytes text : List ℕ) (c : ℕ) (is_first : Bool) → text ≡ encode_utf8 c → is_first ≡ starts_with eqb bytes text → is_first ≡ true →
    127 < c → (rest : List ℕ) × (bytes ≡ encode_utf8 c ++ rest) × (127 < c)
spelled-first bytes text c is_first spells told is far =
    (drop (length text) bytes, (starts_is (λ a b. (eqb-true a b, eq-eqb a b)) bytes text is_first told).0 is ∙ ap (λ t. t ++ drop (length text) bytes) spells, far)
