-- Better solutions.
use Rattle.std.specs.Prelude.{◌≡◌, ℕ, ◌<◌, ◌≤◌, ◌⊎◌, List}
use Rattle.grid.specs.declared.moves.Letter.{Letter}
use Rattle.grid.specs.Board.{Board}
use Rattle.lurd.specs.Verdict.{IsVerdict}
use Rattle.lurd.specs.declared.verdict.Verdict.TheVariants.{Solved}

-- if the old letters solve the board, the new ones do, with fewer pushes, or with as many pushes and no more moves
abbrev pub IsNoWorse : Board → List Letter → List Letter → Type 0
IsNoWorse board old new = (pushes moves : ℕ) → IsVerdict board old (Solved pushes moves) →
    (fewer : ℕ) × (shorter : ℕ) × IsVerdict board new (Solved fewer shorter) ×
    ((fewer < pushes) ⊎ ((fewer ≡ pushes) × (shorter ≤ moves)))
