-- What stands at the beginning of bytes: digits, a letter, or a fault.
use Rattle.std.proofs.Common.{◌≡◌, ℕ, ◌+◌, ◌<◌, ◌≤◌, Bool, true, false, cond, List, [], ◌∷◌, ◌++◌, ◌⊎◌, length, take, drop, slice_index, refl, sym, ap}
use Rattle.std.proofs.Common.{subst, length-append, ◌∙◌, arith, append_assoc}
use Rattle.std.specs.Char.{is_ascii_digit}
use Rattle.std.proofs.lemmas.List.{take-append-drop, take_rest}
use Rattle.std.proofs.lemmas.List.Folds.{length-prefix_len}
use Rattle.grid.specs.declared.moves.Letter.{Letter}
use Rattle.counts.specs.Counts.{AreDigits, IsCount, begins_with_digit, repeats}
use Rattle.counts.proofs.lemmas.Digits.{digit_count, digits_in_front, no_digit_behind}
use Rattle.lurd.specs.declared.limits.TheConstants.{MAX_MOVES}
use Rattle.lurd.specs.Text.{letter_byte, is_skipped, item, spelling, BeginsWithLetter, BeginsBadly, BeginsWithBadCount, BeginsWithTooMany}
use Rattle.lurd.specs.inside.Item.{TakesItem}

no_digit_by : (n : ℕ) (v : Bool) → cond v (1 + n) 0 ≡ 0 → v ≡ false
no_digit_by n true none = absurd (omega (arith, none))
no_digit_by n false none = refl

-- a byte that is no blank, no digit and no letter is bad
pub bad_byte : (bytes : List ℕ) → 0 < length bytes → is_skipped (slice_index bytes 0) ≡ false → digit_count bytes ≡ 0 → ¬ (BeginsWithLetter bytes) →
    BeginsBadly bytes
bad_byte [] some blank none letter = absurd (omega (arith, some))
bad_byte (b ∷ bs) some blank none letter = record {
  byte = b;
  more = bs;
  cut = refl;
  no_letter = λ x is. letter (x, bs, ap (λ y. y ∷ bs) (sym is));
  no_digit = no_digit_by (digit_count bs) (is_ascii_digit b) none;
  no_blank = blank;
}

-- digits that are no count, or that no letter follows, are a bad count
pub bad_count : (bytes : List ℕ) (n : ℕ) → n ≡ digit_count bytes → 0 < n → (¬ (IsCount (take n bytes))) ⊎ (¬ (BeginsWithLetter (drop n bytes))) →
    BeginsWithBadCount bytes
bad_count bytes n is some bad = record {
  digits = take n bytes;
  more = drop n bytes;
  cut = sym (take-append-drop n bytes);
  some = let len : length (take n bytes) ≡ digit_count bytes = ap (λ k. length (take k bytes)) is ∙ length-prefix_len is_ascii_digit bytes in omega arith;
  all = subst (λ k. AreDigits (take k bytes)) (sym is) (digits_in_front bytes);
  whole = subst (λ k. begins_with_digit (drop k bytes) ≡ false) (sym is) (no_digit_behind bytes);
  bad = bad;
}

-- the bytes are digits, a letter, and more
pub cut_at_letter : (bytes : List ℕ) (n : ℕ) (letter : Letter) (more : List ℕ) → drop n bytes ≡ letter_byte letter ∷ more →
    bytes ≡ spelling (item (take n bytes) letter) ++ more
cut_at_letter bytes n letter more is =
    sym (take-append-drop n bytes) ∙ (ap (λ ys. take n bytes ++ ys) is ∙ sym (append_assoc (take n bytes) (letter_byte letter ∷ []) more))

-- a letter that brings the moves above the greatest number
pub too_many : (bytes : List ℕ) (moves n times : ℕ) (letter : Letter) (more : List ℕ) → drop n bytes ≡ letter_byte letter ∷ more → (take n bytes ≡ []) ⊎
    IsCount (take n bytes) → times ≡ repeats (take n bytes) → MAX_MOVES < moves + times → BeginsWithTooMany moves bytes
too_many bytes moves n times letter more is lawful counted above = record {
  digits = take n bytes;
  letter = letter;
  more = more;
  cut = cut_at_letter bytes n letter more is;
  lawful = lawful;
  above = subst (λ k. MAX_MOVES < moves + k) counted above;
}

-- a letter that does not
pub takes_item : (bytes : List ℕ) (moves n times : ℕ) (letter : Letter) (more : List ℕ) → n ≡ digit_count bytes → drop n bytes ≡ letter_byte letter ∷ more →
    (take n bytes ≡ []) ⊎ IsCount (take n bytes) → times ≡ repeats (take n bytes) → moves + times ≤ MAX_MOVES → TakesItem moves bytes letter times (n + 1)
takes_item bytes moves n times letter more count is lawful counted few = record {
  digits = take n bytes;
  more = more;
  cut = cut_at_letter bytes n letter more is;
  lawful = lawful;
  counted = counted;
  taken =
      let len : length (take n bytes) ≡ n = ap (λ k. length (take k bytes)) count ∙ (length-prefix_len is_ascii_digit bytes ∙ sym count) in
      let all = length-append (take n bytes) (letter_byte letter ∷ []) in
      omega arith;
  few = few;
}

-- why the first byte begins no letter with its count
pub ruleset fault_of_item = (bad_byte, bad_count, digits_in_front, take_rest)
