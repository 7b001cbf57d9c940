-- Counts in one hand, and numbers below the next one.
use Rattle.std.proofs.Common.{◌≡◌, ℕ, ◌+◌, ◌<◌, ◌≤◌, min, List, [], ◌∷◌, ◌++◌, refl, ap, arith}
use Rattle.std.specs.Prelude.{All, nat_lt, ◌==◌}
use Rattle.std.proofs.lemmas.Bool.Decides.{nat_tests}
use Rattle.std.proofs.lemmas.Bool.{eq-eqb}
use Rattle.std.proofs.lemmas.List.Sums.{sum_by-cons, sum_by_push}
use Rattle.std.proofs.lemmas.List.Elements.{All-nil, All-cons}
use Rattle.claims.specs.Hands.{one_if, times}

-- one more number at the end
pub times_push : (x : ℕ) (xs : List ℕ) (y : ℕ) → times x (xs ++ y ∷ []) ≡ times x xs + one_if (y == x)
times_push x xs y = sum_by_push (λ (z : ℕ). one_if (z == x)) xs y

-- one more number below both
pub below_more : (x n size : ℕ) → n < size → one_if (nat_lt x (min (n + 1) size)) ≡ one_if (nat_lt x (min n size)) + one_if (n == x)
below_more x n size lt = grind (arith, nat_tests)

-- no more numbers where the length is reached
pub below_same : (x n size : ℕ) → size ≤ n → one_if (nat_lt x (min (n + 1) size)) ≡ one_if (nat_lt x (min n size))
below_same x n size le = ap (λ (m : ℕ). one_if (nat_lt x m)) (omega arith)

one_if_below : (x n size : ℕ) → 1 ≤ one_if (nat_lt x (min n size)) → x < n
one_if_below x n size some = grind (arith, nat_tests)

-- where a list has only numbers that stand below a bound, all of them are below it
pub all_below : (n size : ℕ) (xs : List ℕ) → ((x : ℕ) → times x xs ≤ one_if (nat_lt x (min n size))) → All (λ x. x < n) xs
all_below n size [] few = All-nil (λ x. x < n)
all_below n size (y ∷ ys) few =
    let first : one_if (y == y) ≡ 1 = ap one_if (eq-eqb y y refl) in
    let here = few y in
    let cons = sum_by-cons (λ (z : ℕ). one_if (z == y)) y ys in
    All-cons (λ x. x < n) y ys (one_if_below y n size (omega arith))
    (all_below n size ys (λ x. let more = few x in let cons' = sum_by-cons (λ (z : ℕ). one_if (z == x)) y ys in omega arith))
