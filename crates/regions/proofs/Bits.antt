-- Sets of boxes as bits of their seats.
use Rattle.std.proofs.Common.{◌≡◌, ◌≢◌, ◌<◌, ◌==◌, length, ℕ, Bool, true, false, not, List, inl, inr, refl, sym, ap, ◌∙◌}
use Rattle.std.specs.Int.RustNames.{bit_and, bit_or}
use Rattle.std.proofs.lemmas.Bool.{cases_lt, eqb-true, ne_eqb, true≢false}
use Rattle.std.proofs.lemmas.List.{get_or_past}
use Rattle.std.proofs.lemmas.Nat.{and_comm, and_or_apart, and_or_self}
use Rattle.std.specs.Int.Bits.{and_zero_l, and_zero_r}
use Rattle.regions.specs.inside.Listing.{HasOwnBit, bit_of, box_in}

-- no bits, no boxes
pub no_box : (bits : List ℕ) (q : ℕ) → box_in bits 0 q ≡ false
no_box bits q = ap (λ (n : ℕ). not (n == 0)) (and_zero_l (bit_of bits q))

-- one box more, and the others
pub box_put : (bits : List ℕ) (set x : ℕ) → bit_of bits x ≢ 0 → box_in bits (bit_or set (bit_of bits x)) x ≡ true
box_put bits set x some =
    ap (λ (n : ℕ). not (n == 0)) (and_or_self (bit_of bits x) set) ∙ ap not (ne_eqb (bit_of bits x) 0 some)

pub box_other : (bits : List ℕ) (set x q : ℕ) → HasOwnBit bits x → x ≢ q
    → box_in bits (bit_or set (bit_of bits x)) q ≡ box_in bits set q
box_other bits set x q apart ne =
    ap (λ (n : ℕ). not (n == 0)) (and_or_apart (bit_of bits q) set (bit_of bits x) (apart q ne))

-- where there is no box, and where there is one
pub free_bit : (bits : List ℕ) (set q : ℕ) → box_in bits set q ≡ false → bit_and set (bit_of bits q) ≡ 0
free_bit bits set q free = eqb-true (bit_and set (bit_of bits q)) 0 (by (bit_and set (bit_of bits q) == 0) free)
  where
    by : (b : Bool) → not b ≡ false → b ≡ true
    by true h = refl
    by false h = absurd (true≢false h)

pub box_bit : (bits : List ℕ) (set q : ℕ) → box_in bits set q ≡ true → bit_and set (bit_of bits q) ≢ 0
box_bit bits set q there none = true≢false (sym there ∙ ap (λ (n : ℕ). not (n == 0)) none)

pub no_bit : (bits : List ℕ) (set q : ℕ) → bit_and set (bit_of bits q) ≡ 0 → box_in bits set q ≡ false
no_bit bits set q none = ap (λ (n : ℕ). not (n == 0)) none

-- two squares without boxes
pub both_free : (set a b : ℕ) → bit_and set a ≡ 0 → bit_and set b ≡ 0 → bit_and set (bit_or a b) ≡ 0
both_free set a b first second =
    and_comm set (bit_or a b) ∙ (and_or_apart set a b (and_comm b set ∙ second) ∙ (and_comm a set ∙ first))

-- what no square of the list shares, no square shares
pub apart_from_all : (bits : List ℕ) (x : ℕ)
    → ((q : ℕ) → q < length bits → x ≢ q → bit_and (bit_of bits x) (bit_of bits q) ≡ 0) → HasOwnBit bits x
apart_from_all bits x all q ne = elim (cases_lt q (length bits)) [
  | inl lt ↦ all q lt ne
  | inr ge ↦ ap (λ (n : ℕ). bit_and (bit_of bits x) n) (get_or_past bits q 0 ge) ∙ and_zero_r (bit_of bits x)
]
