-- What the sums of the boxes' least pushes settle: how many pushes boxes need, and how a push changes that.
use Rattle.std.specs.Prelude.{◌≡◌, ℕ, suc, ◌≤◌, true, List, length}
use Rattle.grid.specs.declared.dir.Dir.{Dir}
use Rattle.grid.specs.declared.square.Push.{Push}
use Rattle.grid.specs.Squares.{Squares, contains}
use Rattle.grid.specs.Board.{Board, Scene, IsSolved, Pushes}
use Rattle.grid.specs.States.{IsScene}
use Rattle.grid.specs.Plays.{Play, Any}
use Rattle.doom.specs.Bounds.{IsLower}
use Rattle.doom.specs.Deadlocks.{IsDead}

-- one of the boxes is on a dead square
abbrev pub HaveDead : Board → Squares → Type 0
HaveDead board boxes = (q : ℕ) × (contains boxes q ≡ true) × IsDead board q

-- each play from a state with just these boxes that ends solved has n pushes or more
abbrev pub NeedAtLeast : Board → Squares → ℕ → Type 0
NeedAtLeast board boxes n = (s t : Scene) (ds : List Dir) (ps : List Push) → IsScene board s → s.boxes ≡ boxes →
    Play board Any s ds ps t → IsSolved board t →
    n ≤ length ps

-- a push from a state with just these boxes leads to boxes whose sum, if they have one, is at least n - 1
abbrev pub LessenByOne : Board → Squares → ℕ → Type 0
LessenByOne board boxes n = (s t : Scene) (d : Dir) (m : ℕ) → IsScene board s → s.boxes ≡ boxes → Pushes board s d t →
    IsLower board t.boxes m → n ≤ suc m

-- a push lessens the sum by one at most: where the boxes after it have one, those before have one too, of one more or
-- less
abbrev pub PushLessensByOne : Board → Type 0
PushLessensByOne board = (s t : Scene) (d : Dir) (m : ℕ) → IsScene board s → Pushes board s d t →
    IsLower board t.boxes m → (n : ℕ) × IsLower board s.boxes n ×
    (n ≤ suc m)

-- solved boxes need no push
abbrev pub SolvedNeedNone : Board → Type 0
SolvedNeedNone board = (s : Scene) → IsSolved board s → IsLower board s.boxes 0

-- boxes have one sum only
abbrev pub HaveOneSum : Board → Type 0
HaveOneSum board = (boxes : Squares) (m n : ℕ) → IsLower board boxes m → IsLower board boxes n → m ≡ n
