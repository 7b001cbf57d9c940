-- States that plays with few pushes solve.
use Rattle.std.specs.Prelude.{◌≡◌, ℕ, suc, ◌≤◌, ◌<◌, ◌↔◌, Option, Some, None, List, [], length}
use Rattle.grid.specs.declared.dir.Dir.{Dir}
use Rattle.grid.specs.declared.square.Push.{Push}
use Rattle.grid.specs.Board.{Board, Scene, IsSolved, Pushes}
use Rattle.grid.specs.States.{IsScene}
use Rattle.grid.specs.Plays.{Play, Any, push_at}
use Rattle.area.specs.Area.{IsNorm}
use Rattle.area.specs.Pushes.{CanPush}

-- some play from the state with at most m pushes ends solved
abbrev pub SolvableWithin : Board → ℕ → Scene → Type 0
SolvableWithin board m s =
    (ds : List Dir) × (ps : List Push) × (t : Scene) × Play board Any s ds ps t × IsSolved board t × (length ps ≤ m)

-- no play from the state with at most m pushes ends solved
abbrev pub NoneWithin : Board → ℕ → Scene → Type 0
NoneWithin board m s =
    (ds : List Dir) (ps : List Push) (t : Scene) → Play board Any s ds ps t → IsSolved board t → m < length ps

-- the cap allows m pushes; without a cap every number is allowed
abbrev pub Allows : Option ℕ → ℕ → Type 0
Allows None m = Unit {0}
Allows (Some most) m = m ≤ most

-- no play within m pushes ends solved exactly if the state is not solvable within m
abbrev pub NoneIsNotSolvable : Board → Type 0
NoneIsNotSolvable board = (m : ℕ) (s : Scene) → NoneWithin board m s ↔ ¬ (SolvableWithin board m s)

-- after a walk and a push, which is possible from s, the state is solvable within one push less
pub record HasFirstPush (board : Board) (m : ℕ) (s : Scene) : Type 0 where
  pub left : ℕ
  pub before : Scene
  pub dir : Dir
  pub after : Scene
  pub one : m ≡ suc left
  pub walked : (ds : List Dir) × Play board Any s ds [] before
  pub pushed : Pushes board before dir after
  pub possible : CanPush board s (push_at board before dir)
  pub rest : SolvableWithin board left after

-- an unsolved state that is solvable within m has such a first push
abbrev pub FirstPushLeads : Board → Type 0
FirstPushLeads board =
    (m : ℕ) (s : Scene) → IsScene board s → ¬ (IsSolved board s) → SolvableWithin board m s → HasFirstPush board m s

-- the two states are solvable within the same numbers of pushes
abbrev pub AreAlike : Board → Scene → Scene → Type 0
AreAlike board s t = (m : ℕ) → SolvableWithin board m s ↔ SolvableWithin board m t

-- a walk changes nothing
abbrev pub WalksChangeNothing : Board → Type 0
WalksChangeNothing board =
    (s t : Scene) (ds : List Dir) → IsScene board s → Play board Any s ds [] t → AreAlike board s t

-- a state and its normal form are solvable within the same numbers of pushes
abbrev pub NormsChangeNothing : Board → Type 0
NormsChangeNothing board = (s n : Scene) → IsScene board s → IsNorm board s n → AreAlike board s n
