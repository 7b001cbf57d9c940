-- A new ledger keeps its rule: nothing is drawn, and no place is taken.
use Rattle.std.proofs.Common.{◌≡◌, ℕ, zero, suc, ◌^◌, ◌<◌, List, [], ◌∷◌, get_or, replicate, refl, sym, ap, subst, arith}
use Rattle.std.specs.Prelude.{nat_lt, min}
use mathlib.Core.Option.{some-injective, some-ne-none}
use Rattle.std.proofs.lemmas.Bool.{le-ltb}
use Rattle.claims.specs.declared.ledger.TheConstants.{PLACES}
use Rattle.claims.specs.Hands.{empty_hand, one_if}
use Rattle.claims.specs.Rule.{IsDrawnOnce, first}
use Rattle.claims.proofs.Fitting.{Fits, AllFit, fits_one, fits_empty}

zeros : (n p : ℕ) → get_or {A = ℕ} (replicate n 0) p 0 ≡ 0
zeros zero p = refl
zeros (suc n) zero = refl
zeros (suc n) (suc p) = zeros n p

nothing : (x size : ℕ) → one_if (nat_lt x (min 0 size)) ≡ 0
nothing x size = ap one_if (le-ltb x (min 0 size) (omega arith))

alone : (size : ℕ) (words : List ℕ) → AllFit size words (first size ∷ [])
alone size words zero v at = subst (Fits size words) (some-injective (first size) v at) (fits_one size words empty_hand (fits_empty size words))
alone size words (suc i) v at = absurd (some-ne-none v (sym at))

pub opens : (size : ℕ) → size < 2 ^ 32 → IsDrawnOnce size (replicate (suc PLACES) 0) (first size ∷ [])
opens size short = record {
  ranges = (refl, short);
  numbers = λ x. sym (nothing x size);
  places = λ p. sym (zeros PLACES p);
  single = λ p. let none = zeros PLACES p in omega arith;
  seats = refl;
  excess = omega arith;
  views_fit = alone size (replicate (suc PLACES) 0);
}
