-- The layers of a level: what push lists through undoomed positions reach, and in which order.
use Rattle.std.specs.Prelude.{◌≡◌, ℕ, List, length, sum_by, slice_get, Some}
use Rattle.grid.specs.declared.dir.Dir.{Dir}
use Rattle.grid.specs.declared.square.Push.{Push}
use Rattle.grid.specs.Board.{Board, Scene, start, push_cmp}
use Rattle.grid.specs.Plays.{Play}
use Rattle.area.specs.Area.{IsNorm}
use Rattle.doom.specs.Deadlocks.{Undoomed}
use Rattle.successors.specs.Layered.{IsLayer}
use Rattle.successors.specs.Problems.{Problem, IsAdmitted}

-- ps are the pushes of a play from the start, through undoomed positions alone, to a state of the normal form n
abbrev pub Reaches : Board → List Push → Scene → Type 0
Reaches board ps n =
    (ds : List Dir) × (t : Scene) × Play board (Undoomed board) (start board) ds ps t × IsNorm board t n

-- xs is layer k of the level under its cap: the admitted normal forms whose leads have length k, in the order of
-- their leads
abbrev pub IsLayerOf : Problem → ℕ → List Scene → Type 0
IsLayerOf problem k xs = IsLayer push_cmp (Reaches problem.board) (IsAdmitted problem.board problem.cap) k xs

-- layers holds the first layers of the level, layer 0 first
abbrev pub AreLayersOf : Problem → List (List Scene) → Type 0
AreLayersOf problem layers = (j : ℕ) (xs : List Scene) → slice_get layers j ≡ Some xs → IsLayerOf problem j xs

-- how many elements the lists have together
abbrev pub total : {A : Type 0} → List (List A) → ℕ
total xss = sum_by length xss
