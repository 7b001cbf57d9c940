-- Sets of squares as words: one square more or less, the least square, and the list of the squares.
use Rattle.std.proofs.Common.{◌≡◌, ◌≢◌, ℕ, zero, suc, ◌+◌, ◌*◌, ◌/◌, ◌%◌, ◌^◌, ◌<◌, ◌≤◌, min, Bool, true, false, not}
use Rattle.std.proofs.Common.{cond, eqb, ◌&&◌, ◌||◌, List, ◌∷◌, length, get_or, set, replicate, inl, inr, refl}
use Rattle.std.proofs.Common.{sym, ap, subst, ◌∙◌, arith}
use Rattle.std.specs.Int.{bit_at, bit_not, trailing_zeros, w64}
use Rattle.std.specs.Int.RustNames.{bit_and, bit_or}
use Rattle.std.proofs.lemmas.Bool.{cases_lt, cases_eq, cases_order, and_parts, not-true, cases_Bool, eq-eqb, ne_eqb}
use Rattle.std.proofs.lemmas.Bool.{eqb-true, true≢false}
use Rattle.std.proofs.lemmas.List.{get_or-set_same, get_or-set_other, get_or-replicate, get_or_past, length-replicate}
use Rattle.std.proofs.lemmas.Nat.Bits.{bit_at_set_same, bit_at_set_other, bit_at_clear_same, bit_at_clear_other}
use Rattle.std.proofs.lemmas.Nat.Bits.{bit_at-trailing_zeros}
use Rattle.std.proofs.Math.Bool.{or-true, or-false, and-true, and-false}
use Rattle.grid.specs.declared.masks.TheConstants.{WORD_BITS}
use Rattle.grid.specs.Masks.{has_bit}
use Rattle.grid.specs.Squares.{Squares, contains}
use Rattle.grid.specs.Rising.{is_rising, rises_from}
use Rattle.grid.proofs.lemmas.Squares.{rises_from-cons, rises_from-weaker}
use Rattle.area.specs.inside.Detours.{IsLeastWith}
use Rattle.area.specs.Words.{word_bit, passing_from, squares_of}
use Rattle.area.proofs.lemmas.WordBits.{has_bit-at, has_bit-parts, has_bit_inside, square_parts, word_bit-zero}

-- ---- one square

set_bit : (w k j : ℕ) → k < WORD_BITS → word_bit (bit_or w (1 * 2 ^ k % 2 ^ 64)) j ≡ (word_bit w j || eqb k j)
unfolding word_bit
set_bit w k j lt = elim (cases_eq j k) [
  | inl e ↦ ap (λ (x : ℕ). eqb x 1) (ap (bit_at (bit_or w (1 * 2 ^ k % 2 ^ 64))) e ∙ bit_at_set_same w64 w k lt) ∙
      sym (ap (λ (b : Bool). eqb (bit_at w j) 1 || b) (eq-eqb k j (sym e)) ∙ or-true (eqb (bit_at w j) 1))
  | inr ne ↦ ap (λ (x : ℕ). eqb x 1) (bit_at_set_other w64 w k lt j ne) ∙
      sym (ap (λ (b : Bool). eqb (bit_at w j) 1 || b) (ne_eqb k j (λ e. ne (sym e))) ∙ or-false (eqb (bit_at w j) 1))
]

pub cleared_bit : (w k j : ℕ) → k < WORD_BITS → j < WORD_BITS
    → word_bit (bit_and w (bit_not w64 (1 * 2 ^ k % 2 ^ 64))) j ≡ (word_bit w j && not (eqb k j))
unfolding word_bit
cleared_bit w k j lt in_word = elim (cases_eq j k) [
  | inl e ↦ ap (λ (x : ℕ). eqb x 1) (ap (bit_at (bit_and w (bit_not w64 (1 * 2 ^ k % 2 ^ 64)))) e
      ∙ bit_at_clear_same w64 w k lt) ∙
      sym (ap (λ (b : Bool). eqb (bit_at w j) 1 && not b) (eq-eqb k j (sym e)) ∙ and-false (eqb (bit_at w j) 1))
  | inr ne ↦ ap (λ (x : ℕ). eqb x 1) (bit_at_clear_other w64 w k lt j in_word ne) ∙
      sym (ap (λ (b : Bool). eqb (bit_at w j) 1 && not b) (ne_eqb k j (λ e. ne (sym e)))
      ∙ and-true (eqb (bit_at w j) 1))
]

-- two tests for equal numbers that say the same
pub same_test : (a b c d : ℕ) → (a ≡ b → c ≡ d) → (c ≡ d → a ≡ b) → eqb a b ≡ eqb c d
same_test a b c d f g = grind arith

-- the set with one square more
pub bit_put : (words : List ℕ) (read square q : ℕ) → read ≡ square → read / WORD_BITS < length words →
    has_bit (set words (read / WORD_BITS)
    (bit_or (get_or words (read / WORD_BITS) 0) (1 * 2 ^ (read % WORD_BITS) % 2 ^ 64))) q ≡
    (has_bit words q || eqb square q)
bit_put words read square q at inside = elim (cases_eq (q / WORD_BITS) (read / WORD_BITS)) [
  | inl e ↦
      has_bit-parts new q
      ∙ (ap (λ (k : ℕ). word_bit (get_or new k 0) (q % WORD_BITS)) e
      ∙ (ap (λ (w : ℕ). word_bit w (q % WORD_BITS))
      (get_or-set_same words (read / WORD_BITS)
      (bit_or (get_or words (read / WORD_BITS) 0) (1 * 2 ^ (read % WORD_BITS) % 2 ^ 64)) 0 inside)
      ∙ (set_bit (get_or words (read / WORD_BITS) 0) (read % WORD_BITS) (q % WORD_BITS) (square_parts read).1
      ∙ (ap (λ (b : Bool). b ||
      eqb (read % WORD_BITS) (q % WORD_BITS))
      (sym (has_bit-parts words q ∙ ap (λ (k : ℕ). word_bit (get_or words k 0) (q % WORD_BITS)) e))
      ∙ ap (λ (b : Bool). has_bit words q || b)
      (same_test (read % WORD_BITS) (q % WORD_BITS) square q (λ f. omega arith) (λ f. omega arith))))))
  | inr ne ↦
      has_bit-parts new q
      ∙ (ap (λ (w : ℕ). word_bit w (q % WORD_BITS))
      (get_or-set_other words (read / WORD_BITS) (q / WORD_BITS)
      (bit_or (get_or words (read / WORD_BITS) 0) (1 * 2 ^ (read % WORD_BITS) % 2 ^ 64)) 0 ne)
      ∙ (sym (has_bit-parts words q)
      ∙ sym (ap (λ (b : Bool). has_bit words q || b)
      (ne_eqb square q (λ f. ne (ap (λ (x : ℕ). x / WORD_BITS) (sym f ∙ sym at)))) ∙
      or-false (has_bit words q))))
]
  where
    new : List ℕ
    new = set words (read / WORD_BITS)
        (bit_or (get_or words (read / WORD_BITS) 0) (1 * 2 ^ (read % WORD_BITS) % 2 ^ 64))

-- the set with one square less
pub bit_take : (words : List ℕ) (read square q : ℕ) → read ≡ square → read / WORD_BITS < length words →
    has_bit (set words (read / WORD_BITS)
    (bit_and (get_or words (read / WORD_BITS) 0) (bit_not w64 (1 * 2 ^ (read % WORD_BITS) % 2 ^ 64)))) q ≡
    (has_bit words q && not (eqb square q))
bit_take words read square q at inside = elim (cases_eq (q / WORD_BITS) (read / WORD_BITS)) [
  | inl e ↦
      has_bit-parts new q
      ∙ (ap (λ (k : ℕ). word_bit (get_or new k 0) (q % WORD_BITS)) e
      ∙ (ap (λ (w : ℕ). word_bit w (q % WORD_BITS)) (get_or-set_same words (read / WORD_BITS) left 0 inside)
      ∙ (cleared_bit (get_or words (read / WORD_BITS) 0) (read % WORD_BITS) (q % WORD_BITS) (square_parts read).1
      (square_parts q).1
      ∙ (ap (λ (b : Bool). b &&
      not (eqb (read % WORD_BITS) (q % WORD_BITS)))
      (sym (has_bit-parts words q ∙ ap (λ (k : ℕ). word_bit (get_or words k 0) (q % WORD_BITS)) e))
      ∙ ap (λ (b : Bool). has_bit words q && not b)
      (same_test (read % WORD_BITS) (q % WORD_BITS) square q (λ f. omega arith) (λ f. omega arith))))))
  | inr ne ↦
      has_bit-parts new q
      ∙ (ap (λ (w : ℕ). word_bit w (q % WORD_BITS))
      (get_or-set_other words (read / WORD_BITS) (q / WORD_BITS) left 0 ne)
      ∙ (sym (has_bit-parts words q)
      ∙ sym (ap (λ (b : Bool). has_bit words q && not b)
      (ne_eqb square q (λ f. ne (ap (λ (x : ℕ). x / WORD_BITS) (sym f ∙ sym at)))) ∙
      and-true (has_bit words q))))
]
  where
    left : ℕ
    left = bit_and (get_or words (read / WORD_BITS) 0) (bit_not w64 (1 * 2 ^ (read % WORD_BITS) % 2 ^ 64))

    new : List ℕ
    new = set words (read / WORD_BITS) left

-- the set without squares
pub none_set : (words : List ℕ) (n q : ℕ) → words ≡ replicate n 0 → has_bit words q ≡ false
none_set words n q e =
    grind (arith, has_bit-parts, word_bit-zero, cases_lt, get_or-replicate, get_or_past, length-replicate)

-- a word without the bit of a square
pub bit_without : (index word read square j : ℕ) → read ≡ square → index ≡ read / WORD_BITS → j < WORD_BITS →
    word_bit (bit_and word (bit_not w64 (1 * 2 ^ (read % WORD_BITS) % 2 ^ 64))) j ≡ (word_bit word j && not
    (eqb (WORD_BITS * index + j) square))
bit_without index word read square j at same lt = grind (arith, cleared_bit, square_parts, same_test)

-- ---- the least square

-- the lowest bit of a word
pub lowest_bit : (word : ℕ) → 0 < word → word < 2 ^ 64
    → (trailing_zeros w64 word < WORD_BITS) × (word_bit word (trailing_zeros w64 word) ≡ true) ×
    ((j : ℕ) → word_bit word j ≡ true → trailing_zeros w64 word ≤ j)
unfolding word_bit
lowest_bit word some fits =
    let t = bit_at-trailing_zeros w64 word some fits in (
      t.0,
      eq-eqb (bit_at word (trailing_zeros w64 word)) 1 t.1,
      λ j h. elim (cases_lt j (trailing_zeros w64 word)) [
        | inl lt ↦ absurd (let z = t.2 j lt in let o = eqb-true (bit_at word j) 1 h in omega (arith, z, o))
        | inr le ↦ le
      ],
    )

-- what is less than an index's squares is of a word before it
pub least_word : (words : List ℕ) (index r : ℕ) → ((k : ℕ) → k < index → get_or words k 0 ≡ 0)
    → 0 < get_or words index 0 → get_or words index 0 < 2 ^ 64
    → r ≡ WORD_BITS * index + trailing_zeros w64 (get_or words index 0)
    → (has_bit words r ≡ true) × ((q : ℕ) → has_bit words q ≡ true → r ≤ q)
least_word words index r none some fits e =
    grind (arith, lowest_bit, has_bit-at, cases_order, has_bit-parts, true≢false, word_bit-zero)

-- where all words are 0, nothing is in the set
pub none_there : (words : List ℕ) (n q : ℕ) → ((k : ℕ) → k < n → get_or words k 0 ≡ 0) → length words ≤ n
    → has_bit words q ≡ true → ⊥
none_there words n q none all h = grind (arith, has_bit_inside, true≢false, has_bit-parts, word_bit-zero)

-- ---- the list of the squares

-- a number is among those that pass where it is in the range and passes
passing_below : (test : ℕ → Bool) (k n q : ℕ) → q < k → contains (passing_from test k n) q ≡ false
passing_below test k zero q lt = refl
passing_below test k (suc n) q lt = grind (arith, passing_below test (suc k) n q (omega arith))

pub passing_within : (test : ℕ → Bool) (k n q : ℕ) → k ≤ q → q < k + n → contains (passing_from test k n) q ≡ test q
passing_within test k zero q ge lt = absurd (omega arith)
passing_within test k (suc n) q ge lt = elim (cases_eq k q) [
  | inl e ↦ subst (λ (x : ℕ). contains (passing_from test k (suc n)) x ≡ test x) e (first (test k))
  | inr ne ↦ later (test k) ne (passing_within test (suc k) n q (omega arith) (omega arith))
]
  where
    first : (b : Bool) → contains (cond b (k ∷ passing_from test (suc k) n) (passing_from test (suc k) n)) k ≡ b
    first true = ap (λ (x : Bool). x || contains (passing_from test (suc k) n) k) (eq-eqb k k refl)
    first false = passing_below test (suc k) n k (omega arith)

    later : (b : Bool) → k ≢ q → contains (passing_from test (suc k) n) q ≡ test q →
        contains (cond b (k ∷ passing_from test (suc k) n) (passing_from test (suc k) n)) q ≡ test q
    later true ne h = ap (λ (x : Bool). x || contains (passing_from test (suc k) n) q) (ne_eqb k q ne) ∙ h
    later false ne h = h

pub passing_past : (test : ℕ → Bool) (k n q : ℕ) → k + n ≤ q → contains (passing_from test k n) q ≡ false
passing_past test k zero q ge = refl
passing_past test k (suc n) q ge = grind (arith, passing_past test (suc k) n q (omega arith))

-- a square is in the list where the words have its bit
pub contains-squares_of : (words : List ℕ) (q : ℕ) → contains (squares_of words) q ≡ has_bit words q
unfolding squares_of
contains-squares_of words q = grind (arith, cases_lt, passing_within, passing_past, cases_Bool, has_bit_inside)

-- a member by its bit, and back
pub member_bit : (words : List ℕ) (q : ℕ) → contains (squares_of words) q ≡ true → has_bit words q ≡ true
member_bit words q h = sym (contains-squares_of words q) ∙ h

pub bit_member : (words : List ℕ) (q : ℕ) → has_bit words q ≡ true → contains (squares_of words) q ≡ true
bit_member words q h = contains-squares_of words q ∙ h

-- the numbers in the list rise
pub passing_rise : (test : ℕ → Bool) (k n : ℕ) → rises_from k (passing_from test k n) ≡ true
passing_rise test k zero = refl
passing_rise test k (suc n) = grind (arith, passing_rise test (suc k) n, rises_from-cons, rises_from-weaker)

pub squares_of_rise : (words : List ℕ) → is_rising (squares_of words) ≡ true
unfolding squares_of
squares_of_rise words = passing_rise (has_bit words) 0 (WORD_BITS * length words)

-- the same where the words and the list have names
pub listed : (words seen : List ℕ) (squares : Squares) (q : ℕ) → squares_of words ≡ squares → seen ≡ words
    → contains squares q ≡ has_bit seen q
listed words seen squares q list same = grind (arith, contains-squares_of)

-- the squares of the words before an index are none but `but`
pub below_word : (words : List ℕ) (but index word rest : ℕ)
    → ((q : ℕ) → q < WORD_BITS * index → has_bit words q ≡ true → q ≡ but)
    → word ≡ get_or words index 0 → ((j : ℕ) → j < WORD_BITS
    → word_bit rest j ≡ (word_bit word j && not (eqb (WORD_BITS * index + j) but))) → rest ≡ 0
    → (q : ℕ) → q < WORD_BITS * (index + 1) → has_bit words q ≡ true → q ≡ but
below_word words but index word rest below at bits none q lt h = elim (cases_lt q (WORD_BITS * index)) [
  | inl less ↦ below q less h
  | inr ge ↦
      (let same : q / WORD_BITS ≡ index = omega arith in
      let whole : WORD_BITS * index + q % WORD_BITS ≡ q = omega arith in
      let here : word_bit word (q % WORD_BITS) ≡ true = ap (λ (w : ℕ). word_bit w (q % WORD_BITS)) at ∙
      (sym (has_bit-parts words q ∙ ap (λ (k : ℕ). word_bit (get_or words k 0) (q % WORD_BITS)) same) ∙ h) in
      elim (cases_eq (WORD_BITS * index + q % WORD_BITS) but) [
        | inl e ↦ sym whole ∙ e
        | inr ne ↦ absurd (true≢false (sym (bits (q % WORD_BITS) (square_parts q).1 ∙
            (ap (λ (b : Bool). b && not (eqb (WORD_BITS * index + q % WORD_BITS) but)) here
            ∙ ap not (ne_eqb (WORD_BITS * index + q % WORD_BITS) but ne))) ∙
            (ap (λ (w : ℕ). word_bit w (q % WORD_BITS)) none ∙ word_bit-zero (q % WORD_BITS))))
      ])
]

-- the least of a word's squares but for `but`, or one that is less, is the least of all
pub least_rest : (words : List ℕ) (but more index word rest r : ℕ)
    → ((q : ℕ) → q < WORD_BITS * index → has_bit words q ≡ true → q ≡ but)
    → word ≡ get_or words index 0 → ((j : ℕ) → j < WORD_BITS
    → word_bit rest j ≡ (word_bit word j && not (eqb (WORD_BITS * index + j) but))) → 0 < rest
    → rest < 2 ^ 64 → r ≡ min (WORD_BITS * index + trailing_zeros w64 rest) more
    → IsLeastWith (squares_of words) but more r
least_rest words but more index word rest r below at bits some fits e = record {
  one = elim (cases_lt more first) [
    | inl lt ↦ inl (omega arith)
    | inr ge ↦
        inr (
          contains-squares_of words r ∙ (ap (has_bit words) (is_first ge) ∙ there),
          λ f. apart
              (sym (is_first ge) ∙ f),
        )
  ];
  most = omega arith;
  least = λ q h ne. (let le : first ≤ q = no_less q (sym (contains-squares_of words q) ∙ h) ne in omega arith);
}
  where
    first : ℕ
    first = WORD_BITS * index + trailing_zeros w64 rest

    low : (trailing_zeros w64 rest < WORD_BITS) × (word_bit rest (trailing_zeros w64 rest) ≡ true) ×
        ((j : ℕ) → word_bit rest j ≡ true → trailing_zeros w64 rest ≤ j)
    low = lowest_bit rest some fits

    parts : (word_bit word (trailing_zeros w64 rest) ≡ true) × (not (eqb first but) ≡ true)
    parts = and_parts (word_bit word (trailing_zeros w64 rest)) (not (eqb first but))
        (sym (bits (trailing_zeros w64 rest) low.0) ∙ low.1)

    there : has_bit words first ≡ true
    there = has_bit-at words index (trailing_zeros w64 rest) low.0
        ∙ (ap (λ (w : ℕ). word_bit w (trailing_zeros w64 rest)) (sym at) ∙ parts.0)

    apart : first ≢ but
    apart f = true≢false (sym (eq-eqb first but f) ∙ not-true (eqb first but) parts.1)

    is_first : first ≤ more → r ≡ first
    is_first le = omega (arith, e, le)

    no_less : (q : ℕ) → has_bit words q ≡ true → q ≢ but → first ≤ q
    no_less q h ne = elim (cases_order (q / WORD_BITS) index) [
      | inl same ↦
          (let whole : WORD_BITS * index + q % WORD_BITS ≡ q = omega arith in
          let here : word_bit word (q % WORD_BITS) ≡ true = ap (λ (w : ℕ). word_bit w (q % WORD_BITS)) at ∙
          (sym (has_bit-parts words q ∙ ap (λ (k : ℕ). word_bit (get_or words k 0) (q % WORD_BITS)) same) ∙ h) in
          let p = low.2 (q % WORD_BITS) (bits (q % WORD_BITS) (square_parts q).1 ∙
          (ap (λ (b : Bool). b && not (eqb (WORD_BITS * index + q % WORD_BITS) but)) here ∙
          ap not (ne_eqb (WORD_BITS * index + q % WORD_BITS) but (λ f. ne (sym whole ∙ f))))) in
          omega (arith, p))
      | inr (inl less) ↦ absurd (ne (below q (omega arith) h))
      | inr (inr more_than) ↦ (let p = low.0 in omega (arith, p))
    ]

-- where nothing is in the set but `but`, the one more is the least
pub least_none : (words : List ℕ) (but more n : ℕ) → ((q : ℕ) → q < WORD_BITS * n → has_bit words q ≡ true → q ≡ but)
    → length words ≤ n
    → IsLeastWith (squares_of words) but more more
least_none words but more n below all = grind (arith, contains-squares_of, has_bit_inside)
