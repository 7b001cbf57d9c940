-- The fewest moves from each listed state to the end.
use Rattle.std.specs.Prelude.{◌≡◌, ℕ, suc, ◌+◌, ◌*◌, ◌≤◌, ◌<◌, List, ◌∷◌, ◌++◌, length, slice_get, Option}
use Rattle.std.specs.Prelude.{None, Some}
use Rattle.grid.specs.declared.dir.Dir.{Dir}
use Rattle.grid.specs.declared.square.Push.{Push}
use Rattle.grid.specs.Board.{Board, Scene, IsSolved, next, opposite, start}
use Rattle.grid.specs.Plays.{Play, Any}
use Rattle.area.specs.Pushes.{CanPush}
use Rattle.successors.specs.Expansion.{after_push}
use Rattle.store.specs.Visited.{Node}
use Rattle.shortest.specs.inside.Listing.{IsEntryAt, StatesView}
use Rattle.area.specs.WalkLengths.{IsWalkLength}
use Rattle.shortest.specs.declared.ways.Way.{Way}

-- the number, if there is one, is at most n
abbrev pub IsAtMost : Option ℕ → ℕ → Type 0
IsAtMost None n = ⊥
IsAtMost (Some v) n = v ≤ n

-- some play from s with at most m pushes ends solved and has v moves
abbrev pub EndsSolvedBy : Board → ℕ → Scene → ℕ → Type 0
EndsSolvedBy board m s v = (ds : List Dir) × (ps : List Push) × (t : Scene) × Play board Any s ds ps t ×
    IsSolved board t × (length ps ≤ m) × (length ds ≡ v)

-- the fewest moves of a play from s with at most m pushes that ends solved; None if there is no such play
pub record IsRest (board : Board) (m : ℕ) (s : Scene) (rest : Option ℕ) : Type 0 where
  pub some : (v : ℕ) → rest ≡ Some v → EndsSolvedBy board m s v
  pub least : (ds : List Dir) (ps : List Push) (t : Scene) → Play board Any s ds ps t → IsSolved board t →
      length ps ≤ m → IsAtMost rest (length ds)

-- the fewest moves of a listed state, and that they fit 64 bits
pub record IsRestOf (board : Board) (m : ℕ) (s : Scene) (rest : Option ℕ) : Type 0 where
  pub is : IsRest board m s rest
  pub small : (v : ℕ) → rest ≡ Some v → v ≤ m * 4294967296

-- the numbers are the fewest moves of the listed states from a place on
pub record AreRests (board : Board) (most place : ℕ) (all : List Node) (rests : List (Option ℕ)) : Type 0 where
  pub many : length rests ≡ length all
  pub each : (i m : ℕ) (x : Node) (rest : Option ℕ) → place ≤ i → slice_get all i ≡ Some x →
      slice_get rests i ≡ Some rest → x.pushes + m ≡ most → IsRestOf board m x.position rest

-- the state with k pushes is listed, is not one of the last, and the fewest moves of the states behind it are known
pub record IsOnward (v : StatesView) (rests : List (Option ℕ)) (k : ℕ) (s : Scene) : Type 0 where
  pub place : ℕ
  pub at_place : IsEntryAt v.entries place s k
  pub known : AreRests v.board v.most (suc place) v.entries rests
  pub fewer : k < v.most

-- each play from s that ends solved, of which this is the first push and at most m pushes follow it, has at least as
-- many moves; None says that there is no such play
abbrev pub IsLeastBy : Board → ℕ → Scene → Push → Option ℕ → Type 0
IsLeastBy board m s p moves = (ds : List Dir) (ps : List Push) (t : Scene) → Play board Any s ds (p ∷ ps) t →
    IsSolved board t → length ps ≤ m → IsAtMost moves (length ds)

-- the state after a push of a state with k pushes has the place, and this is the fewest moves from it on
pub record LeadsToEnd (board : Board) (all : List Node) (rests : List (Option ℕ)) (k : ℕ) (s : Scene) (p : Push)
    (place rest : ℕ) : Type 0 where
  pub entry : Node
  pub at : slice_get all place ≡ Some entry
  pub there : entry.position ≡ after_push board s p
  pub count : entry.pushes ≡ suc k
  pub rest_is : slice_get rests place ≡ Some (Some rest)

-- a way on from a state with k pushes: a shortest walk behind a box, the push, and the fewest moves after it
pub record IsWay (board : Board) (all : List Node) (rests : List (Option ℕ)) (k : ℕ) (s : Scene) (way : Way) : Type 0
  where
    pub walk : ℕ
    pub rest : ℕ
    pub possible : CanPush board s way.push
    pub leads : LeadsToEnd board all rests k s way.push way.place rest
    pub walked : IsWalkLength board s (next board way.push.square (opposite way.push.dir)) walk
    pub short : walk < 4294967296
    pub moves : way.moves ≡ walk + 1 + rest

abbrev pub moves_of : Option Way → Option ℕ
moves_of None = None
moves_of (Some way) = Some way.moves

-- none of the first `count` pushes begins a play with fewer moves
abbrev pub AreLeastBy : Board → ℕ → Scene → List Push → ℕ → Option ℕ → Type 0
AreLeastBy board m s pushes count moves =
    (i : ℕ) (p : Push) → i < count → slice_get pushes i ≡ Some p → IsLeastBy board m s p moves

-- some play with these pushes and v moves leads from s to a solved state
abbrev pub Finishes : Board → Scene → List Push → ℕ → Type 0
Finishes board s ps v = (ds : List Dir) × (t : Scene) × Play board Any s ds ps t × IsSolved board t × (length ds ≡ v)

-- the pushes that were read lead to the state at the place, from which the fewest moves go on to the end
pub record IsReading (board : Board) (all : List Node) (rests : List (Option ℕ)) (total place : ℕ) (read : List Push) :
    Type 0 where
  pub entry : Node
  pub rest : ℕ
  pub at : slice_get all place ≡ Some entry
  pub rest_is : slice_get rests place ≡ Some (Some rest)
  pub count : length read ≡ entry.pushes
  pub on : (ps : List Push) → Finishes board entry.position ps rest → Finishes board (start board) (read ++ ps) total
