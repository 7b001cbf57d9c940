-- What deadlocks mean for plays: from doomed positions no play ends solved.
use Rattle.std.specs.Prelude.{◌≡◌, ℕ, true, List}
use Rattle.grid.specs.declared.dir.Dir.{Dir}
use Rattle.grid.specs.declared.square.Push.{Push}
use Rattle.grid.specs.Squares.{Squares, contains}
use Rattle.grid.specs.Board.{Board, Scene, IsSolved}
use Rattle.grid.specs.States.{IsScene}
use Rattle.grid.specs.Plays.{Play, Any}
use Rattle.doom.specs.Deadlocks.{Undoomed}

-- no play from the state ends with every box on a goal
abbrev pub IsLost : Board → Scene → Type 0
IsLost board s = (t : Scene) (ds : List Dir) (ps : List Push) → Play board Any s ds ps t → ¬ (IsSolved board t)

-- from no state of the level with exactly these boxes does a play end solved
abbrev pub AreLost : Board → Squares → Type 0
AreLost board boxes = (s : Scene) → IsScene board s → s.boxes ≡ boxes → IsLost board s

-- from no state of the level with a box on the square does a play end solved
abbrev pub LosesBox : Board → ℕ → Type 0
LosesBox board q = (s : Scene) → IsScene board s → contains s.boxes q ≡ true → IsLost board s

-- each state along a play that ends solved is undoomed: a solution is a safe play
abbrev pub SolvesSafely : Board → Type 0
SolvesSafely board =
    (s t : Scene) (ds : List Dir) (ps : List Push) → IsScene board s → Play board Any s ds ps t → IsSolved board t →
    Play board (Undoomed board) s ds ps t
