-- The first position of a list whose boxes are all on goals.
use Rattle.std.proofs.Common.{◌≡◌, ℕ, ◌+◌, ◌<◌, ◌≤◌, List, length, Some, inl, inr, subst, arith}
use Rattle.std.proofs.lemmas.Bool.{cases_lt}
use Rattle.std.proofs.lemmas.Option.{slice_get_within}
use Rattle.std.specs.Prelude.{slice_get}
use Rattle.grid.specs.Board.{Board, Scene, IsSolved}

-- one more place that is not solved
pub unsolved_more : (board : Board) (places : List Scene) (rank : ℕ) → ((r : ℕ) (n : Scene) → r < rank → slice_get places r ≡ Some n → ¬ (IsSolved board n)) →
    ((n : Scene) → slice_get places rank ≡ Some n → ¬ (IsSolved board n)) → (r : ℕ) (n : Scene) → r < rank + 1 → slice_get places r ≡ Some n →
    ¬ (IsSolved board n)
unsolved_more board places rank before here r n lt at =
    elim (cases_lt r rank) [
      | inl less ↦ before r n less at
      | inr le ↦ here n (subst (λ (k : ℕ). slice_get places k ≡ Some n) (omega arith) at)
    ]

-- at the end of the list all places were looked at
pub unsolved_all : (board : Board) (places : List Scene) (rank : ℕ) → ((r : ℕ) (n : Scene) → r < rank → slice_get places r ≡ Some n → ¬ (IsSolved board n)) →
    length places ≤ rank → (r : ℕ) (n : Scene) → slice_get places r ≡ Some n → ¬ (IsSolved board n)
unsolved_all board places rank before le r n at = let within = slice_get_within places r n at in before r n (omega arith) at
