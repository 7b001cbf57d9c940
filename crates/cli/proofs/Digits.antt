-- Which words are numbers of a range.
use Rattle.std.specs.Prelude.{◌≡◌, ◌≤◌, ℕ, ◌<◌, ◌^◌, List, [], ◌∷◌, true, false, ◌==◌, ◌&&◌, slice_index, drop, cond, length}
use Rattle.std.specs.Prelude.{nat_le, nat_lt, Some, None}
use Rattle.std.proofs.Common.{ap, subst, sym, arith}
use Rattle.std.proofs.lemmas.Bool.{and_from, and_parts, cond-false, cond-true, eqb-true, false_from_ne_true, le-leb}
use Rattle.std.proofs.lemmas.Bool.{leb-true, lt-ltb, ltb-true}
use Rattle.std.proofs.lemmas.Str.Parse.{IsNumeralModel, numerals_by_value, tells_all_ascii_digits}
use Rattle.std.specs.Char.{digit_value}
use Rattle.std.specs.Str.{all_ascii_digits}
use Rattle.std.specs.Str.Parse.{IsNumeral, digits_value, without_leading_plus}
use Rattle.cli.specs.Words.{is_number, number_from}

-- a word without a plus is read as it is
no_sign : (word : List ℕ) → (slice_index word 0 == 43) ≡ false → without_leading_plus word ≡ word
no_sign word plain = ap (λ b. drop (cond b 1 0) word) plain

-- what a word that is a number of a range is
record Fits (least most : ℕ) (word : List ℕ) : Type 0 where
  digits : IsNumeral 10 word
  above : least ≤ digits_value 10 word
  below : digits_value 10 word ≤ most

own : IsNumeralModel (λ word. all_ascii_digits word ≡ true) (digits_value 10)
own = numerals_by_value _ tells_all_ascii_digits

parts : (least most : ℕ) (word : List ℕ) → is_number least most word ≡ true → Fits least most word
parts least most word is =
    let both = and_parts (nat_lt 0 (length word) && all_ascii_digits word) _ is in
    let text = and_parts (nat_lt 0 (length word)) (all_ascii_digits word) both.0 in
    let range = and_parts (nat_le least (digits_value 10 word)) (nat_le (digits_value 10 word) most) both.1 in
    record {
      digits = (ltb-true 0 (length word) text.0, own.to word text.1);
      above = leb-true least (digits_value 10 word) range.0;
      below = leb-true (digits_value 10 word) most range.1;
    }

refused : (least most : ℕ) (word : List ℕ) → ¬ (Fits least most word) → number_from least most word ≡ None
unfolding number_from
refused least most word bad =
    cond-false (is_number least most word) (Some (digits_value 10 word)) None
    (false_from_ne_true (is_number least most word) (λ is. bad (parts least most word is)))

accepted : (least most : ℕ) (word : List ℕ) → IsNumeral 10 word → least ≤ digits_value 10 word → digits_value 10 word ≤ most
    → number_from least most word ≡ Some (digits_value 10 word)
unfolding number_from
accepted least most word digits above below =
    cond-true (is_number least most word) (Some (digits_value 10 word)) None
    (and_from _ _ (and_from _ _ (lt-ltb 0 (length word) digits.0) (own.from word digits.1))
    (and_from _ _ (le-leb least (digits_value 10 word) above) (le-leb (digits_value 10 word) most below)))

plus_is_no_digit : (c : ℕ) → c ≡ 43 → ¬ (digit_value c < 10)
plus_is_no_digit c same digit =
    let more : digit_value 43 < 10 = subst (λ c. digit_value c < 10) same digit in omega arith

-- a word with a plus is no number
pub signed : (least most : ℕ) (word : List ℕ) → (slice_index word 0 == 43) ≡ true → number_from least most word ≡ None
signed least most [] plus = refused least most [] (λ is. let less : 0 < 0 = is.digits.0 in omega arith)
signed least most (c ∷ word) plus =
    refused least most (c ∷ word) (λ is. plus_is_no_digit c (eqb-true c 43 plus) is.digits.1.0)

-- a word that is not read as a number of 32 bits is no number that has 32 bits
pub not_parsed : (least most : ℕ) (word : List ℕ) → (slice_index word 0 == 43) ≡ false → most < 2 ^ 32
    → ¬ (IsNumeral 10 (without_leading_plus word) × (digits_value 10 (without_leading_plus word) < 2 ^ 32))
    → number_from least most word ≡ None
not_parsed least most word plain range bad = refused least most word (λ is.
    let small : digits_value 10 word < 2 ^ 32 = omega (arith, is.below, range) in
    subst (λ w. ¬ (IsNumeral 10 w × (digits_value 10 w < 2 ^ 32))) (no_sign word plain) bad (is.digits, small))

-- a number below the range or above it
pub too_small : (least most : ℕ) (word : List ℕ) → (slice_index word 0 == 43) ≡ false
    → digits_value 10 (without_leading_plus word) < least → number_from least most word ≡ None
too_small least most word plain small =
    let less : digits_value 10 word < least = subst (λ w. digits_value 10 w < least) (no_sign word plain) small in
    refused least most word (λ is. omega (arith, is.above, less))

pub too_great : (least most : ℕ) (word : List ℕ) → (slice_index word 0 == 43) ≡ false
    → most < digits_value 10 (without_leading_plus word) → number_from least most word ≡ None
too_great least most word plain great =
    let more : most < digits_value 10 word = subst (λ w. most < digits_value 10 w) (no_sign word plain) great in
    refused least most word (λ is. omega (arith, is.below, more))

-- and a number of the range
pub in_range : (least most : ℕ) (word : List ℕ) → (slice_index word 0 == 43) ≡ false
    → IsNumeral 10 (without_leading_plus word) → least ≤ digits_value 10 (without_leading_plus word)
    → digits_value 10 (without_leading_plus word) ≤ most
    → number_from least most word ≡ Some (digits_value 10 (without_leading_plus word))
in_range least most word plain = subst
    (λ w. IsNumeral 10 w → least ≤ digits_value 10 w → digits_value 10 w ≤ most → number_from least most word ≡ Some (digits_value 10 w))
    (sym (no_sign word plain)) (accepted least most word)

pub ruleset readings = (signed, not_parsed, too_small, too_great, in_range)
