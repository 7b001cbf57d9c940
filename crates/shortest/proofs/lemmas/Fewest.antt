-- Solutions with the fewest pushes.
use Rattle.std.proofs.Common.{◌≡◌, ◌≤◌, ℕ, List, inl, inr, length, sym, subst, arith}
use Rattle.grid.specs.Board.{Board}
use Rattle.grid.specs.declared.moves.Letter.{Letter}
use Rattle.lurd.specs.Verdict.{IsVerdict}
use Rattle.lurd.specs.declared.verdict.Verdict.{Verdict}
use Rattle.lurd.specs.declared.verdict.Verdict.TheVariants.{Solved}
use Rattle.lurd.proofs.lemmas.Solutions.{solution_of_solved}
use Rattle.prices.specs.Fewest.{NoneHasFewer}
use Rattle.prices.specs.Searching.{SomeHas}
use Rattle.shortest.specs.Improving.{IsNoWorse}

-- letters that solve a board write a solution
pub some_has : (board : Board) (letters : List Letter) (v : Verdict) (pushes moves : ℕ) → v ≡ Solved pushes moves → IsVerdict board letters v →
    SomeHas board pushes
some_has board letters v pushes moves e is =
    let w = solution_of_solved board letters pushes moves (subst (λ (u : Verdict). IsVerdict board letters u) e is) in (_, w.list, w.solution, w.pushes_are)

-- letters that are no worse than those with the fewest pushes have the fewest too
pub still_fewest : (board : Board) (old new : List Letter) (pushes : ℕ) → IsVerdict board old (Solved pushes (length old)) →
    NoneHasFewer board pushes → IsNoWorse board old new → IsVerdict board new (Solved pushes (length new))
still_fewest board old new pushes was fewest better =
    let (fewer, shorter, is, cases) = better pushes (length old) was in
    let w = solution_of_solved board new fewer shorter is in
    let least : pushes ≤ length w.list = fewest _ w.list w.solution in
    let count = w.pushes_are in
    let same : fewer ≡ pushes = elim cases [
      | inl less ↦ absurd (omega (arith, less, least, count))
      | inr (as_many, few) ↦ as_many
    ] in
    subst (λ (n : ℕ). IsVerdict board new (Solved pushes n)) (sym w.moves_are)
    (subst (λ (n : ℕ). IsVerdict board new (Solved n shorter)) same is)
