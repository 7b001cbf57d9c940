-- How many pushes lead from the start to a position, and lists without repetition.
use Rattle.std.specs.Prelude.{◌≡◌, ℕ, ◌≤◌, List, length, slice_get, Some}
use Rattle.grid.specs.declared.square.Push.{Push}
use Rattle.grid.specs.Board.{Scene}
use Rattle.successors.specs.Problems.{Problem, IsAdmitted}
use Rattle.successors.specs.Reaching.{Reaches}

-- no position occurs twice
abbrev pub AreDistinct : List Scene → Type 0
AreDistinct ms = (i j : ℕ) (m : Scene) → slice_get ms i ≡ Some m → slice_get ms j ≡ Some m → i ≡ j

-- k pushes through undoomed positions lead to m, and no fewer, and m is admitted there
abbrev pub IsAtDistance : Problem → Scene → ℕ → Type 0
IsAtDistance problem m k = ((ps : List Push) × Reaches problem.board ps m × (length ps ≡ k)) ×
    ((qs : List Push) → Reaches problem.board qs m → k ≤ length qs) ×
    IsAdmitted problem.board problem.cap k m
