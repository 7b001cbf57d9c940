-- What a sum of words carries along a run of bits.
use Rattle.std.proofs.Common.{◌≡◌, ℕ, zero, suc, ◌+◌, ◌/◌, ◌%◌, ◌^◌, ◌<◌, ◌≤◌, Bool, true, false, eqb, inl, inr, sym, ap, ◌∙◌, arith}
use Rattle.std.specs.Int.{bit_at, bit_not, w64}
use Rattle.std.specs.Int.RustNames.{bit_and, bit_or}
use Rattle.std.proofs.lemmas.Bool.{cases_eq, eqb-true, eq-eqb, eqb-false, not-true}
use Rattle.std.proofs.lemmas.Nat.{le_or_l}
use Rattle.std.proofs.lemmas.Nat.Bits.{bit_at-lt, bit_at_lowest, bit_at-suc}
use Rattle.grid.specs.declared.masks.TheConstants.{WORD_BITS}
use Rattle.area.specs.Words.{word_bit}
use Rattle.area.specs.inside.Flooding.{PassesUp, IsGrown}
use Rattle.area.proofs.lemmas.Growing.{or_bit, and_bit, bit_or_left}
use Rattle.area.proofs.lemmas.WordBits.{bit_at-mod, word_bit-not, word_bit_inside}

-- where a bit of a word goes away in the sum with another word, a run of the word's bits leads there from a bit of the other
-- one, or from the carry into the first index
carry_bit : (free add carry : ℕ) (test : ℕ → Bool) → carry ≤ 1 → ((i : ℕ) → bit_at free (suc i) ≡ 1 → test i ≡ true → test (suc i) ≡ true) →
    ((i : ℕ) → bit_at add i ≡ 1 → test i ≡ true) → (carry ≡ 1 → bit_at free 0 ≡ 1 → test 0 ≡ true)
    → (j : ℕ) → bit_at free j ≡ 1 → bit_at (free + add + carry) j ≡ 0 → test j ≡ true
carry_bit free add carry test small passes starts begins zero here gone = grind arith
carry_bit free add carry test small passes starts begins (suc j) here gone =
    carry_bit (free / 2) (add / 2) ((free % 2 + add % 2 + carry) / 2) (λ i. test (suc i)) (omega (arith, small))
    (λ i bit old. passes (suc i) (bit_at-suc free (suc i) ∙ bit) old)
    (λ i bit. starts (suc i) (bit_at-suc add i ∙ bit))
    (λ one bit. passes 0 (bit_at-suc free 0 ∙ bit) (first one))
    j (sym (bit_at-suc free j) ∙ here) (ap (λ n. bit_at n j) (sym halves) ∙ (sym (bit_at-suc (free + add + carry) j) ∙ gone))
  where
    halves : (free + add + carry) / 2 ≡ free / 2 + add / 2 + (free % 2 + add % 2 + carry) / 2
    halves = omega arith

    first : (free % 2 + add % 2 + carry) / 2 ≡ 1 → test 0 ≡ true
    first one = elim (cases_eq (add % 2) 1) [
      | inl there ↦ starts 0 (bit_at_lowest add ∙ there)
      | inr none ↦ begins (omega (arith, one, none, small)) (bit_at_lowest free ∙ (let e : free % 2 ≡ 1 = omega (arith, one, none, small) in e))
    ]

-- so the runs that a sum carries along are filled
pub grown_carry : (word mask : ℕ) → mask < 2 ^ 64 →
    IsGrown word (bit_or word (bit_and mask (bit_not w64 ((mask + word) % 2 ^ 64)))) (λ test. PassesUp test 1 mask)
unfolding word_bit
grown_carry word mask fits = record {
  kept = λ j h. bit_or_left word (bit_and mask (bit_not w64 ((mask + word) % 2 ^ 64))) j h;
  most = le_or_l word (bit_and mask (bit_not w64 ((mask + word) % 2 ^ 64)));
  sound = λ test pass old j h. elim (or_bit word (bit_and mask (bit_not w64 ((mask + word) % 2 ^ 64))) j h) [
    | inl here ↦ old j here
    | inr new ↦
        (let sum : ℕ = (mask + word) % 2 ^ 64 in
        let p = and_bit mask (bit_not w64 sum) j new in
        let lt : j < WORD_BITS = word_bit_inside mask j fits p.0 in
        let gone : eqb (bit_at sum j) 1 ≡ false = not-true (eqb (bit_at sum j) 1) (sym (word_bit-not sum j (omega arith) lt) ∙ p.1) in
        let none : bit_at sum j ≡ 0 = (let b = bit_at-lt sum j in let ne = eqb-false (bit_at sum j) 1 gone in omega (arith, b, ne)) in
        let whole : bit_at (mask + word + 0) j ≡ 0 = ap (λ n. bit_at n j) (let e : mask + word + 0 ≡ mask + word = omega arith in e) ∙
        (sym (bit_at-mod (mask + word) WORD_BITS j lt) ∙ none) in
        carry_bit mask word 0 test (omega arith)
        (λ i bit was. pass i (suc i) (omega arith) (eq-eqb (bit_at mask (suc i)) 1 bit) was)
        (λ i bit. old i (eq-eqb (bit_at word i) 1 bit))
        (λ one. absurd (omega (arith, one)))
        j (eqb-true (bit_at mask j) 1 p.0) whole)
  ];
}
