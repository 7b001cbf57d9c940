-- Solutions with the fewest pushes and, of those, the fewest moves.
use Rattle.std.specs.Prelude.{◌≡◌, ℕ, ◌≤◌, ◌<◌, ◌⊎◌, List, length, slice_get, Some}
use Rattle.grid.specs.declared.dir.Dir.{Dir}
use Rattle.grid.specs.declared.square.Push.{Push}
use Rattle.grid.specs.Board.{Board, Scene, start}
use Rattle.grid.specs.Plays.{Play, Any, IsSolution}
use Rattle.successors.specs.Distances.{AreDistinct}

-- no solution has fewer pushes, and none with as few has fewer moves
abbrev pub NoneIsBetter : Board → ℕ → ℕ → Type 0
NoneIsBetter board pushes moves = (ds : List Dir) (ps : List Push) → IsSolution board ds ps →
    (pushes < length ps) ⊎ ((pushes ≡ length ps) × (moves ≤ length ds))

-- a play with k pushes leads from the start to the state
abbrev pub IsReachedBy : Board → ℕ → Scene → Type 0
IsReachedBy board k s = (ds : List Dir) × (ps : List Push) × Play board Any (start board) ds ps s × (length ps ≡ k)

-- plays with at most `pushes` pushes reach more different states than the limit
pub record HasMoreStates (board : Board) (pushes limit : ℕ) : Type 0 where
  pub states : List Scene
  pub many : limit < length states
  pub different : AreDistinct states
  pub reached : (i : ℕ) (s : Scene) → slice_get states i ≡ Some s → (k : ℕ) × (k ≤ pushes) × IsReachedBy board k s
