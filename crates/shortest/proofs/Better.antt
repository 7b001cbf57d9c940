-- Solutions that are no worse than others.
use Rattle.std.proofs.Common.{◌≡◌, ℕ, ◌<◌, ◌≤◌, ◌⊎◌, List, inl, inr, refl, sym, ◌∙◌, arith}
use Rattle.grid.specs.declared.moves.Letter.{Letter}
use Rattle.grid.specs.Board.{Board}
use Rattle.lurd.specs.ExactlyOne.{ExactlyOne}
use Rattle.lurd.specs.Verdict.{IsVerdict}
use Rattle.lurd.specs.declared.verdict.Verdict.TheVariants.{Solved}
use Rattle.shortest.specs.Improving.{IsNoWorse}

-- letters are no worse than themselves
pub no_worse_same : (board : Board) (letters : List Letter) → IsNoWorse board letters letters
no_worse_same board letters pushes moves solved = (pushes, moves, solved, inr (refl, omega arith))

-- those that are no worse than others that are no worse
pub no_worse_then : (board : Board) (old mid new : List Letter) → IsNoWorse board old mid → IsNoWorse board mid new →
    IsNoWorse board old new
no_worse_then board old mid new one two pushes moves solved =
    let (p, m, first, less) = one pushes moves solved in
    let (q, n, second, fewer) = two p m first in
    (q, n, second, least pushes moves p m q n less fewer)
  where
    least : (a b c d e f : ℕ) → (c < a) ⊎ ((c ≡ a) × (d ≤ b)) → (e < c) ⊎ ((e ≡ c) × (f ≤ d)) →
        (e < a) ⊎ ((e ≡ a) × (f ≤ b))
    least a b c d e f (inl x) (inl y) = inl (omega (arith, x, y))
    least a b c d e f (inl x) (inr y) = inl (let z = y.0 in omega (arith, x, z))
    least a b c d e f (inr x) (inl y) = inl (let z = x.0 in omega (arith, z, y))
    least a b c d e f (inr x) (inr y) = inr (
      (let u = x.0 in let v = y.0 in omega (arith, u, v)),
      (let u = x.1 in let v = y.1 in omega (arith, u, v)),
    )

-- numbers that are better than others are better than equal ones
better_than : (q n p m pushes moves : ℕ) → pushes ≡ p → moves ≡ m → (q < p) ⊎ ((q ≡ p) × (n ≤ m)) →
    (q < pushes) ⊎ ((q ≡ pushes) × (n ≤ moves))
better_than q n p m pushes moves a b (inl less) = inl (omega (arith, less, a))
better_than q n p m pushes moves a b (inr (as_many, few)) = inr (omega (arith, as_many, a), omega (arith, few, b))

-- a solution with fewer pushes, or with as many and no more moves
pub no_worse_by : (board : Board) (old new : List Letter) (p m q n : ℕ) → ExactlyOne (λ v. IsVerdict board old v) →
    IsVerdict board old (Solved p m) → IsVerdict board new (Solved q n) → (q < p) ⊎ ((q ≡ p) × (n ≤ m)) →
    IsNoWorse board old new
no_worse_by board old new p m q n (v, here, only) was is better pushes moves solved =
    let e : Solved pushes moves ≡ Solved p m = only (Solved pushes moves) solved ∙ sym (only (Solved p m) was) in
    let a : pushes ≡ p = cc in
    let b : moves ≡ m = cc in
    (q, n, is, better_than q n p m pushes moves a b better)
