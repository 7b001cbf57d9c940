-- The place of a goal.
use Rattle.std.proofs.Common.{◌≡◌, ◌<◌, ◌||◌, ℕ, suc, Bool, true, false, cond, eqb, List, [], ◌∷◌, length, arith}
use Rattle.std.proofs.lemmas.Bool.{false≢true}
use Rattle.grid.specs.Squares.{contains}
use Rattle.prices.specs.inside.Tables.{place_in}

pub place_inside : (xs : List ℕ) (q : ℕ) → contains xs q ≡ true → place_in xs q < length xs
place_inside [] q here = absurd (false≢true here)
place_inside (x ∷ xs) q here = at_head (eqb x q) (λ h. place_inside xs q h) here
  where
    at_head : (e : Bool) → (contains xs q ≡ true → place_in xs q < length xs) → (e || contains xs q) ≡ true
        → cond e 0 (suc (place_in xs q)) < suc (length xs)
    at_head true tail h = omega arith
    at_head false tail h = let lt = tail h in omega (arith, lt)
