-- Bits of words, and of sets of squares as words.
use Rattle.std.proofs.Common.{◌≡◌, ℕ, zero, suc, ◌+◌, ◌-◌, ◌*◌, ◌/◌, ◌%◌, ◌^◌, ◌<◌, ◌≤◌, min, max, Bool, true, false, not, eqb, ◌&&◌, ◌||◌, List, length}
use Rattle.std.proofs.Common.{get_or, inl, inr, refl, sym, ap, ◌∙◌, arith}
use Rattle.std.specs.Int.{bit_at, bit_not, w64}
use Rattle.std.specs.Int.RustNames.{bit_and, bit_or}
use Rattle.std.proofs.lemmas.Bool.{cases_lt, eqb-true, true≢false}
use Rattle.std.proofs.lemmas.List.{get_or_past}
use Rattle.std.proofs.lemmas.Nat.{pow_pos, shr-shr, shr_split}
use Rattle.std.proofs.lemmas.Nat.Bits.{bit_at_and, bit_at_or, bit_at_not, bit_at-lt, shr_and_one, bit_at-zero, bit_at_above, bit_at_cat_low, bit_at_cat_high}
use Rattle.grid.specs.declared.masks.TheConstants.{WORD_BITS}
use Rattle.grid.specs.Masks.{has_bit}
use Rattle.area.specs.Words.{word_bit}

-- ---- one word

either : (a b : ℕ) → a < 2 → b < 2 → eqb (max a b) 1 ≡ (eqb a 1 || eqb b 1)
either zero zero p q = refl
either zero (suc zero) p q = refl
either (suc zero) zero p q = refl
either (suc zero) (suc zero) p q = refl
either (suc (suc a)) b p q = absurd (omega arith)
either a (suc (suc b)) p q = absurd (omega arith)

both : (a b : ℕ) → a < 2 → b < 2 → eqb (min a b) 1 ≡ (eqb a 1 && eqb b 1)
both zero zero p q = refl
both zero (suc zero) p q = refl
both (suc zero) zero p q = refl
both (suc zero) (suc zero) p q = refl
both (suc (suc a)) b p q = absurd (omega arith)
both a (suc (suc b)) p q = absurd (omega arith)

other : (a : ℕ) → a < 2 → eqb (1 - a) 1 ≡ not (eqb a 1)
other zero p = refl
other (suc zero) p = refl
other (suc (suc a)) p = absurd (omega arith)

pub word_bit-or : (a b j : ℕ) → word_bit (bit_or a b) j ≡ (word_bit a j || word_bit b j)
unfolding word_bit
word_bit-or a b j = ap (λ (x : ℕ). eqb x 1) (bit_at_or a b j) ∙ either (bit_at a j) (bit_at b j) (bit_at-lt a j) (bit_at-lt b j)

pub word_bit-and : (a b j : ℕ) → word_bit (bit_and a b) j ≡ (word_bit a j && word_bit b j)
unfolding word_bit
word_bit-and a b j = ap (λ (x : ℕ). eqb x 1) (bit_at_and a b j) ∙ both (bit_at a j) (bit_at b j) (bit_at-lt a j) (bit_at-lt b j)

pub word_bit-not : (a j : ℕ) → a < 2 ^ 64 → j < WORD_BITS → word_bit (bit_not w64 a) j ≡ not (word_bit a j)
unfolding word_bit
word_bit-not a j fits lt = ap (λ (x : ℕ). eqb x 1) (bit_at_not w64 a j fits lt) ∙ other (bit_at a j) (bit_at-lt a j)

pub word_bit-zero : (j : ℕ) → word_bit 0 j ≡ false
unfolding word_bit
word_bit-zero j = ap (λ (x : ℕ). eqb x 1) (bit_at-zero j)

-- the test whether a word has a bit
pub word_bit_tested : (a j : ℕ) → eqb (bit_and (a / 2 ^ j) 1) 1 ≡ word_bit a j
unfolding word_bit
word_bit_tested a j = ap (λ (x : ℕ). eqb x 1) (shr_and_one a j)

-- a word has no bit past its end
pub word_bit_inside : (a j : ℕ) → a < 2 ^ 64 → word_bit a j ≡ true → j < WORD_BITS
unfolding word_bit
word_bit_inside a j fits h = elim (cases_lt j WORD_BITS) [
  | inl lt ↦ lt
  | inr le ↦ absurd (let e = eqb-true (bit_at a j) 1 h in let z = bit_at_above a WORD_BITS j fits le in omega (arith, e, z))
]

-- the bits of a remainder
pub bit_at-mod : (a k j : ℕ) → j < k → bit_at (a % 2 ^ k) j ≡ bit_at a j
bit_at-mod a k j lt =
    sym (bit_at_cat_low (a / 2 ^ k) k (a % 2 ^ k) j lt) ∙ ap (λ (x : ℕ). bit_at x j) (shr_split a k)

-- a word shifted up
pub word_bit-shl : (a by i j : ℕ) → i + by ≡ j → j < WORD_BITS → word_bit (a * 2 ^ by % 2 ^ 64) j ≡ word_bit a i
unfolding word_bit
word_bit-shl a by i j e lt = ap (λ (x : ℕ). eqb x 1)
    (bit_at-mod (a * 2 ^ by) WORD_BITS j lt
    ∙ (ap (λ (x : ℕ). bit_at x j) (let z : a * 2 ^ by ≡ a * 2 ^ by + 0 = omega arith in z)
    ∙ (bit_at_cat_high a by 0 j (pow_pos by) (omega arith)
    ∙ ap (bit_at a) (let z : j - by ≡ i = omega arith in z))))

pub word_bit-shl_low : (a by j : ℕ) → j < by → j < WORD_BITS → word_bit (a * 2 ^ by % 2 ^ 64) j ≡ false
unfolding word_bit
word_bit-shl_low a by j low lt = ap (λ (x : ℕ). eqb x 1)
    (bit_at-mod (a * 2 ^ by) WORD_BITS j lt
    ∙ (ap (λ (x : ℕ). bit_at x j) (let z : a * 2 ^ by ≡ a * 2 ^ by + 0 = omega arith in z)
    ∙ (bit_at_cat_low a by 0 j low
    ∙ bit_at-zero j)))

-- a word shifted down
pub word_bit-shr : (a by i j : ℕ) → j + by ≡ i → word_bit (a / 2 ^ by) j ≡ word_bit a i
unfolding word_bit
word_bit-shr a by i j e = ap (λ (x : ℕ). eqb x 1)
    (ap (λ (x : ℕ). x % 2) (shr-shr a by j) ∙ ap (λ (n : ℕ). a / 2 ^ n % 2) (let z : by + j ≡ i = omega arith in z))

-- ---- words

-- the set has a square where its word has the square's bit
pub has_bit-at : (words : List ℕ) (k j : ℕ) → j < WORD_BITS → has_bit words (WORD_BITS * k + j) ≡ word_bit (get_or words k 0) j
unfolding has_bit word_bit
has_bit-at words k j lt = grind arith

-- each square has an index and a bit
pub square_parts : (q : ℕ) → (WORD_BITS * (q / WORD_BITS) + q % WORD_BITS ≡ q) × (q % WORD_BITS < WORD_BITS)
square_parts q = (omega arith, omega arith)

pub has_bit-parts : (words : List ℕ) (q : ℕ) → has_bit words q ≡ word_bit (get_or words (q / WORD_BITS) 0) (q % WORD_BITS)
unfolding has_bit word_bit
has_bit-parts words q = refl

-- past the words nothing is in the set
pub has_bit_inside : (words : List ℕ) (q : ℕ) → has_bit words q ≡ true → q < WORD_BITS * length words
has_bit_inside words q h =
    grind (arith, cases_lt, square_parts, true≢false, has_bit-parts, get_or_past, word_bit-zero)

-- ---- what a word shows of words before and after it

or_right_none : (a b : Bool) → b ≡ false → (a || b) ≡ a
or_right_none true b e = refl
or_right_none false b e = e

or_left_none : (a b : Bool) → a ≡ false → (a || b) ≡ b
or_left_none a b e = ap (λ (x : Bool). x || b) e

halved : (a n j : ℕ) → word_bit (a / 2 / 2 ^ n) j ≡ word_bit a (j + n + 1)
halved a n j = word_bit-shr (a / 2) n (j + n) j refl ∙ word_bit-shr a 1 (j + n + 1) (j + n) refl

past_end : (a j : ℕ) → a < 2 ^ 64 → WORD_BITS ≤ j → word_bit a j ≡ false
unfolding word_bit
past_end a j fits le = ap (λ (x : ℕ). eqb x 1) (bit_at_above a WORD_BITS j fits le)

-- the bits of two words in a row, slid up
pub up_here : (here low near i j : ℕ) → low < 2 ^ 64 → j < WORD_BITS → i + near ≡ j →
    word_bit (bit_or (here * 2 ^ near % 2 ^ 64) (low / 2 / 2 ^ (WORD_BITS - 1 - near))) j ≡ word_bit here i
up_here here low near i j fits lt e = grind (arith, word_bit-or, or_right_none, halved, past_end, word_bit-shl)

pub up_low : (here low near i j : ℕ) → near < WORD_BITS → i < WORD_BITS → i + near ≡ j + WORD_BITS →
    word_bit (bit_or (here * 2 ^ near % 2 ^ 64) (low / 2 / 2 ^ (WORD_BITS - 1 - near))) j ≡ word_bit low i
up_low here low near i j small lt e = grind (arith, word_bit-or, or_left_none, word_bit-shl_low, halved)

-- and slid down
pub down_here : (here high near i j : ℕ) → near < WORD_BITS → i < WORD_BITS → i ≡ j + near →
    word_bit (bit_or (here / 2 ^ near) (high * 2 % 2 ^ 64 * 2 ^ (WORD_BITS - 1 - near) % 2 ^ 64)) j ≡ word_bit here i
down_here here high near i j small lt e =
    word_bit-or (here / 2 ^ near) (high * 2 % 2 ^ 64 * 2 ^ (WORD_BITS - 1 - near) % 2 ^ 64) j
    ∙ (or_right_none (word_bit (here / 2 ^ near) j) (word_bit (high * 2 % 2 ^ 64 * 2 ^ (WORD_BITS - 1 - near) % 2 ^ 64) j) none_above
    ∙ word_bit-shr here near i j (sym e))
  where
    none_above : word_bit (high * 2 % 2 ^ 64 * 2 ^ (WORD_BITS - 1 - near) % 2 ^ 64) j ≡ false
    none_above = elim (cases_lt j (WORD_BITS - 1 - near)) [
      | inl low ↦ word_bit-shl_low (high * 2 % 2 ^ 64) (WORD_BITS - 1 - near) j low (omega arith)
      | inr le ↦ word_bit-shl (high * 2 % 2 ^ 64) (WORD_BITS - 1 - near) 0 j (omega arith) (omega arith) ∙ word_bit-shl_low high 1 0 (omega arith) (omega arith)
    ]

pub down_high : (here high near i j : ℕ) → near < WORD_BITS → here < 2 ^ 64 → j < WORD_BITS → i + WORD_BITS ≡ j + near →
    word_bit (bit_or (here / 2 ^ near) (high * 2 % 2 ^ 64 * 2 ^ (WORD_BITS - 1 - near) % 2 ^ 64)) j ≡ word_bit high i
down_high here high near i j small fits lt e =
    word_bit-or (here / 2 ^ near) (high * 2 % 2 ^ 64 * 2 ^ (WORD_BITS - 1 - near) % 2 ^ 64) j
    ∙ (or_left_none (word_bit (here / 2 ^ near) j) (word_bit (high * 2 % 2 ^ 64 * 2 ^ (WORD_BITS - 1 - near) % 2 ^ 64) j)
    (word_bit-shr here near (j + near) j refl ∙ past_end here (j + near) fits (omega arith))
    ∙ (word_bit-shl (high * 2 % 2 ^ 64) (WORD_BITS - 1 - near) (i + 1) j (omega arith) lt
    ∙ word_bit-shl high 1 i (i + 1) refl (omega arith)))

-- where each of two words in a row has the bits of the squares that pass a test, so has the word that is slid from them
module _ (test : ℕ → Bool) (index far near by out here aside : ℕ) (parts : by ≡ WORD_BITS * far + near) (small : near < WORD_BITS) where
  -- of the squares `by` numbers before
  pub seen_before : ((m : ℕ) → m < WORD_BITS → far ≤ index → word_bit here m ≡ test (WORD_BITS * (index - far) + m))
      → ((m : ℕ) → m < WORD_BITS → far + 1 ≤ index → word_bit aside m ≡ test (WORD_BITS * (index - (far + 1)) + m))
      → ((i j : ℕ) → j < WORD_BITS → i + near ≡ j → word_bit out j ≡ word_bit here i)
      → ((i j : ℕ) → i < WORD_BITS → i + near ≡ j + WORD_BITS → word_bit out j ≡ word_bit aside i)
      → (i j : ℕ) → j < WORD_BITS → i + by ≡ WORD_BITS * index + j → word_bit out j ≡ test i
  seen_before at_here at_aside from_here from_aside i j lt e = elim (cases_lt j near) [
    | inl less ↦
        (let m : ℕ = j + WORD_BITS - near in
        let at : WORD_BITS * (index - (far + 1)) + m ≡ i = omega arith in
        from_aside m j (omega arith) (omega arith) ∙ (at_aside m (omega arith) (omega arith) ∙ ap test at))
    | inr ge ↦
        (let m : ℕ = j - near in
        let at : WORD_BITS * (index - far) + m ≡ i = omega arith in
        from_here m j lt (omega arith) ∙ (at_here m (omega arith) (omega arith) ∙ ap test at))
  ]

  -- and of none where the numbers do not go so far down
  pub none_before : (index < far → here ≡ 0) → (index < far + 1 → aside ≡ 0)
      → ((i j : ℕ) → j < WORD_BITS → i + near ≡ j → word_bit out j ≡ word_bit here i)
      → ((i j : ℕ) → i < WORD_BITS → i + near ≡ j + WORD_BITS → word_bit out j ≡ word_bit aside i)
      → (j : ℕ) → j < WORD_BITS → WORD_BITS * index + j < by → word_bit out j ≡ false
  none_before no_here no_aside from_here from_aside j lt low = elim (cases_lt j near) [
    | inl less ↦
        (let m : ℕ = j + WORD_BITS - near in
        from_aside m j (omega arith) (omega arith) ∙ (ap (λ (w : ℕ). word_bit w m) (no_aside (omega arith)) ∙ word_bit-zero m))
    | inr ge ↦
        (let m : ℕ = j - near in
        from_here m j lt (omega arith) ∙ (ap (λ (w : ℕ). word_bit w m) (no_here (omega arith)) ∙ word_bit-zero m))
  ]

  -- of the squares `by` numbers after
  pub seen_after : ((m : ℕ) → m < WORD_BITS → word_bit here m ≡ test (WORD_BITS * (index + far) + m))
      → ((m : ℕ) → m < WORD_BITS → word_bit aside m ≡ test (WORD_BITS * (index + far + 1) + m))
      → ((i j : ℕ) → i < WORD_BITS → i ≡ j + near → word_bit out j ≡ word_bit here i)
      → ((i j : ℕ) → j < WORD_BITS → i + WORD_BITS ≡ j + near → word_bit out j ≡ word_bit aside i)
      → (i j : ℕ) → j < WORD_BITS → i ≡ WORD_BITS * index + j + by → word_bit out j ≡ test i
  seen_after at_here at_aside from_here from_aside i j lt e = elim (cases_lt (j + near) WORD_BITS) [
    | inl less ↦
        (let at : WORD_BITS * (index + far) + (j + near) ≡ i = omega arith in
        from_here (j + near) j less refl ∙ (at_here (j + near) less ∙ ap test at))
    | inr ge ↦
        (let m : ℕ = j + near - WORD_BITS in
        let at : WORD_BITS * (index + far + 1) + m ≡ i = omega arith in
        from_aside m j lt (omega arith) ∙ (at_aside m (omega arith) ∙ ap test at))
  ]
