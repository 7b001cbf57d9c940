-- The positions that plays reach.
use Rattle.std.specs.Prelude.{◌≡◌, ℕ, ◌<◌, List, length, slice_get, Some}
use Rattle.grid.specs.declared.dir.Dir.{Dir}
use Rattle.grid.specs.declared.square.Push.{Push}
use Rattle.grid.specs.Board.{Board, Scene, start}
use Rattle.grid.specs.Plays.{Play, Any}
use Rattle.area.specs.Area.{IsNorm}
use Rattle.successors.specs.Distances.{AreDistinct}

-- a play leads from the start to a state whose normal form is the position
abbrev pub IsReachable : Board → Scene → Type 0
IsReachable board n =
    (ds : List Dir) × (ps : List Push) × (s : Scene) × Play board Any (start board) ds ps s × IsNorm board s n

-- plays reach more positions than the limit, no two of them the same
pub record HasMore (board : Board) (limit : ℕ) : Type 0 where
  pub positions : List Scene
  pub many : limit < length positions
  pub different : AreDistinct positions
  pub reached : (i : ℕ) (s : Scene) → slice_get positions i ≡ Some s → IsReachable board s
