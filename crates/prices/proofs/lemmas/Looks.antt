-- What a look at one number after the other tells.
use Rattle.std.proofs.Common.{◌≡◌, ◌+◌, ◌<◌, ℕ, inl, inr, subst, arith}
use Rattle.std.proofs.lemmas.Bool.{cases_lt}
pub use Rattle.grid.proofs.lemmas.Directions.{each_test as told_by_four}

-- what holds below a number, and of it, holds below the next one
pub below_next : (P : ℕ → Type 0) (k : ℕ) → ((p : ℕ) → p < k → P p) → P k → (p : ℕ) → p < k + 1 → P p
below_next P k all here p lt = elim (cases_lt p k) [
  | inl less ↦ all p less
  | inr le ↦ let e : k ≡ p = omega (arith, lt, le) in subst P e here
]
