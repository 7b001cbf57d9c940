-- What steps within a word add to it.
use Rattle.std.proofs.Common.{◌≡◌, ℕ, ◌+◌, ◌-◌, ◌*◌, ◌/◌, ◌%◌, ◌^◌, ◌<◌, Bool, true, ◌⊎◌, inl, inr, refl, sym, ◌∙◌, arith}
use Rattle.std.specs.Int.RustNames.{bit_and, bit_or}
use Rattle.std.proofs.lemmas.Bool.{cases_lt, or_cases, or_left, or_right, and_parts, and_from, true≢false}
use Rattle.std.proofs.lemmas.Nat.{le_or_l}
use Rattle.grid.specs.declared.masks.TheConstants.{WORD_BITS}
use Rattle.area.specs.Words.{word_bit}
use Rattle.area.specs.inside.Flooding.{PassesUp, PassesDown, PassesOn, IsGrown}
use Rattle.area.proofs.lemmas.WordBits.{word_bit-or, word_bit-and, word_bit-shl, word_bit-shl_low, word_bit-shr, word_bit_inside}

-- a bit of a union is a bit of one of the two
pub or_bit : (a b j : ℕ) → word_bit (bit_or a b) j ≡ true → (word_bit a j ≡ true) ⊎ (word_bit b j ≡ true)
or_bit a b j h = or_cases (word_bit a j) (word_bit b j) (sym (word_bit-or a b j) ∙ h)

pub bit_or_left : (a b j : ℕ) → word_bit a j ≡ true → word_bit (bit_or a b) j ≡ true
bit_or_left a b j h = word_bit-or a b j ∙ or_left (word_bit a j) (word_bit b j) h

pub bit_or_right : (a b j : ℕ) → word_bit b j ≡ true → word_bit (bit_or a b) j ≡ true
bit_or_right a b j h = word_bit-or a b j ∙ or_right (word_bit a j) (word_bit b j) h

-- a bit of a meet is a bit of both
pub and_bit : (a b j : ℕ) → word_bit (bit_and a b) j ≡ true → (word_bit a j ≡ true) × (word_bit b j ≡ true)
and_bit a b j h = and_parts (word_bit a j) (word_bit b j) (sym (word_bit-and a b j) ∙ h)

pub bit_and_from : (a b j : ℕ) → word_bit a j ≡ true → word_bit b j ≡ true → word_bit (bit_and a b) j ≡ true
bit_and_from a b j g h = word_bit-and a b j ∙ and_from (word_bit a j) (word_bit b j) g h

-- a bit of a word shifted up comes from below
pub shl_bit : (a by j : ℕ) → j < WORD_BITS → word_bit (a * 2 ^ by % 2 ^ 64) j ≡ true → (i : ℕ) × (i + by ≡ j) × (word_bit a i ≡ true)
shl_bit a by j lt h = elim (cases_lt j by) [
  | inl low ↦ absurd (true≢false (sym h ∙ word_bit-shl_low a by j low lt))
  | inr le ↦ (let e : j - by + by ≡ j = omega arith in (j - by, e, sym (word_bit-shl a by (j - by) j e lt) ∙ h))
]

pub shr_bit : (a by j : ℕ) → word_bit (a / 2 ^ by) j ≡ true → word_bit a (j + by) ≡ true
shr_bit a by j h = sym (word_bit-shr a by (j + by) j refl) ∙ h

-- one step
pub grown_up : (word mask by : ℕ) → mask < 2 ^ 64 → IsGrown word (bit_or word (bit_and (word * 2 ^ by % 2 ^ 64) mask)) (λ test. PassesUp test by mask)
grown_up word mask by fits = grind (arith, bit_or_left, le_or_l, or_bit, and_bit, shl_bit, word_bit_inside)

pub grown_down : (word mask by : ℕ) → IsGrown word (bit_or word (bit_and (word / 2 ^ by) mask)) (λ test. PassesDown test by mask)
grown_down word mask by = grind (arith, bit_or_left, le_or_l, or_bit, and_bit, shr_bit)

-- one after the other
pub grown_then : (a b c : ℕ) (P : (ℕ → Bool) → Type 0) → IsGrown a b P → IsGrown b c P → IsGrown a c P
grown_then a b c P g h = grind arith

-- what needs less to pass on
pub grown_by : (a b : ℕ) (P Q : (ℕ → Bool) → Type 0) → ((test : ℕ → Bool) → Q test → P test) → IsGrown a b P → IsGrown a b Q
grown_by a b P Q weaker g = grind arith

-- runs to the right, steps to the left, and then a step down and one up
pub grown_once : (word right left row down last free by : ℕ) → IsGrown word right (λ test. PassesUp test 1 free) →
    IsGrown right left (λ test. PassesDown test 1 free) → IsGrown left row (λ test. PassesDown test 1 free) →
    IsGrown row down (λ test. PassesUp test by free) → IsGrown down last (λ test. PassesDown test by free) →
    IsGrown word last (λ test. PassesOn test by free)
grown_once word right left row down last free by r l m d u =
    grown_then word right last P (grown_by word right (λ test. PassesUp test 1 free) P (λ test pass. pass.on_right) r)
    (grown_then right left last P (grown_by right left (λ test. PassesDown test 1 free) P (λ test pass. pass.on_left) l)
    (grown_then left row last P (grown_by left row (λ test. PassesDown test 1 free) P (λ test pass. pass.on_left) m)
    (grown_then row down last P (grown_by row down (λ test. PassesUp test by free) P (λ test pass. pass.on_down) d)
    (grown_by down last (λ test. PassesDown test by free) P (λ test pass. pass.on_up) u))))
  where
    P : (ℕ → Bool) → Type 0
    P = λ test. PassesOn test by free
