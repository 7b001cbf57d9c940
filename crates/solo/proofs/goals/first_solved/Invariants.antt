use Rattle.std.proofs.Common.{◌≡◌, ℕ, ◌<◌, Some}
use Rattle.std.specs.Prelude.{slice_get}
use Rattle.grid.specs.Board.{Scene, IsSolved}
use Rattle.solo.proofs.goals.first_solved.Given as goal

abbrev pub invariant-loop-rank : goal.invariant-loop-rank
invariant-loop-rank l = (r : ℕ) (n : Scene) → r < l.rank → slice_get l.layer.places r ≡ Some n → ¬ (IsSolved l.layer.level.board n)
