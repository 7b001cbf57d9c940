-- One bit of a word, and the squares beside one.
use Rattle.std.proofs.Common.{◌≡◌, ℕ, ◌*◌, ◌%◌, ◌^◌, ◌<◌, Bool, true, cond, eqb, ◌&&◌, inl, inr, bit_or, w64, refl, sym, ap, ◌∙◌}
use Rattle.std.proofs.lemmas.Bool.{eq-eqb, ne_eqb, cases_eq, and_from, and_right, cond-true, cond-false}
use Rattle.std.proofs.lemmas.Nat.Bits.{bit_at_set_same, bit_at_set_other}
use Rattle.std.specs.Int.{bit_at}
use Rattle.grid.specs.declared.dir.Dir.{Dir}
use Rattle.grid.specs.declared.dir.Dir.TheVariants.{D, L, R, U}
use Rattle.grid.specs.declared.masks.TheConstants.{WORD_BITS}
use Rattle.grid.specs.Board.{Board, next}
use Rattle.grid.specs.Masks.{square_to}
use Rattle.grid.specs.inside.AroundView.{around_of}

-- the bits of a number of which one was set
pub bit_at-set : (n k i : ℕ) (b : Bool) → k < WORD_BITS → b ≡ true
    → bit_at (bit_or n (1 * 2 ^ k % 2 ^ 64)) i ≡ cond (b && eqb i k) 1 (bit_at n i)
bit_at-set n k i b inside set = elim (cases_eq i k) [
  | inl same ↦
      let here : bit_at (bit_or n (1 * 2 ^ k % 2 ^ 64)) i ≡ 1 = ap (λ x. bit_at (bit_or n (1 * 2 ^ k % 2 ^ 64)) x) same
      ∙ bit_at_set_same w64 n k inside in
      here ∙ sym (cond-true (b && eqb i k) 1 (bit_at n i) (and_from b (eqb i k) set (eq-eqb i k same)))
  | inr ne ↦ bit_at_set_other w64 n k inside i ne
      ∙ sym (cond-false (b && eqb i k) 1 (bit_at n i) (and_right b (eqb i k) (ne_eqb i k ne)))
]

-- the square that is kept for a direction is the next one
pub square_to-around_of : (board : Board) (q : ℕ) (d : Dir) → square_to d (around_of board q) ≡ next board q d
square_to-around_of board q D = refl
square_to-around_of board q L = refl
square_to-around_of board q R = refl
square_to-around_of board q U = refl
