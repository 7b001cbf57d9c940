-- The frame of a best-first search: what holds of the positions that it has found, and what follows from that.
use Rattle.std.specs.Prelude.{◌≡◌, ℕ, suc, ◌+◌, ◌≤◌, ◌<◌, List, slice_get, length, Option, None, Some}
use Rattle.grid.specs.declared.dir.Dir.{Dir}
use Rattle.grid.specs.declared.square.Push.{Push}
use Rattle.grid.specs.Board.{Board, Scene, IsSolved, start}
use Rattle.grid.specs.States.{FitsLevel}
use Rattle.grid.specs.Lawful.{IsLevel}
use Rattle.grid.specs.Plays.{Play, Any, IsSolution}
use Rattle.area.specs.Area.{IsNorm}
use Rattle.area.specs.Pushes.{CanPush}
use Rattle.successors.specs.Expansion.{after_push}
use Rattle.prices.specs.Solving.{Allows, SolvableWithin}
use Rattle.store.specs.declared.visited.Parent.{Parent}
use Rattle.store.specs.Earlier.{IsFoundWithin}
use Rattle.store.specs.Visited.{Node}

-- ---- what an expansion owes

-- what an expansion keeps of a position that k pushes led to, for plays with at most `most` pushes: if the position
-- is not solved, and a play solves it with at most m + 1 of the pushes that are left, then some kept position is
-- solvable with at most m
abbrev pub Keeps : Board → ℕ → (Scene → Type 0) → ℕ → Scene → Type 0
Keeps board most Kept k s = (m : ℕ) → k + suc m ≤ most → ¬ (IsSolved board s) → SolvableWithin board (suc m) s →
    (t : Scene) × Kept t × SolvableWithin board m t

-- ---- what holds of each position that was found

-- for plays with at most `most` pushes in all, nothing is left to do: the position is not a solved one with so few,
-- and what its expansion has to keep was found
pub record IsDoneFor (board : Board) (most : ℕ) (all : List Node) (x : Node) : Type 0 where
  pub unsolved : IsSolved board x.position → most < x.pushes
  pub keeps : Keeps board most (IsFoundWithin all (suc x.pushes)) x.pushes x.position

-- a play that leads to the position with these pushes and goes on to a solved one has at least `total` pushes in all
abbrev pub IsBound : Board → ℕ → Scene → ℕ → Type 0
IsBound board pushes s total = (rest : ℕ) → SolvableWithin board rest s → total ≤ pushes + rest

-- a total that the cap allows: a play through the position to a solved one has at least as many pushes
pub record IsTotal (board : Board) (cap : Option ℕ) (pushes : ℕ) (s : Scene) (least : ℕ) : Type 0 where
  pub near : pushes ≤ least
  pub allowed : Allows cap least
  pub bound : IsBound board pushes s least

-- an open position's least total is no less than the pushes that led to it, and one that the cap allows
pub record IsLeast (cap : Option ℕ) (pushes least : ℕ) : Type 0 where
  pub near : pushes ≤ least
  pub allowed : Allows cap least

-- no play that the cap allows leads to the position with these pushes and goes on to a solved one
abbrev pub NoneGoesOn : Board → Option ℕ → ℕ → Scene → Type 0
NoneGoesOn board cap pushes s = (rest : ℕ) → Allows cap (pushes + rest) → ¬ (SolvableWithin board rest s)

-- the number is less than an open position's least total; a closed one has none
abbrev pub IsBelowLeast : Option ℕ → ℕ → Type 0
IsBelowLeast None m = Unit {0}
IsBelowLeast (Some least) m = m < least

-- an open position is done for all totals below its least, and a closed one for all that the cap allows
abbrev pub IsSettled : Board → Option ℕ → List Node → Node → Type 0
IsSettled board cap all x = (most : ℕ) → Allows cap most → IsBelowLeast x.least most → IsDoneFor board most all x

-- the parent was found with fewer pushes, and the push leads from it to the position; without a parent it is the start
abbrev pub ComesFrom : Board → List Node → Node → Option Parent → Type 0
ComesFrom board all x None = IsNorm board (start board) x.position
ComesFrom board all x (Some step) = (y : Node) × (slice_get all step.place ≡ Some y) × (y.pushes < x.pushes) ×
    CanPush board y.position step.push × IsNorm board (after_push board y.position step.push) x.position

-- a play with k pushes leads from the start to a state whose normal form is the position
abbrev pub IsReachedAfter : Board → ℕ → Scene → Type 0
IsReachedAfter board k n = (ds : List Dir) × (ps : List Push) × (s : Scene) × Play board Any (start board) ds ps s ×
    IsNorm board s n × (length ps ≡ k)

-- what is true of each position that was found
pub record IsSoundEntry (board : Board) (cap : Option ℕ) (all : List Node) (x : Node) : Type 0 where
  pub fits : FitsLevel board x.position
  pub reached : IsReachedAfter board x.pushes x.position
  pub from : ComesFrom board all x x.parent
  pub total : (least : ℕ) → x.least ≡ Some least → IsLeast cap x.pushes least
  pub settled : IsSettled board cap all x

abbrev pub AreSoundEntries : Board → Option ℕ → List Node → Type 0
AreSoundEntries board cap all = (i : ℕ) (x : Node) → slice_get all i ≡ Some x → IsSoundEntry board cap all x

-- each was found with fewer pushes than there are positions
abbrev pub AreFew : List Node → Type 0
AreFew all = (i : ℕ) (x : Node) → slice_get all i ≡ Some x → x.pushes < length all

-- a search is under way: it began with the start
pub record IsSearchUnderWay (board : Board) (cap : Option ℕ) (all : List Node) : Type 0 where
  pub begun : (n : Scene) × IsNorm board (start board) n × IsFoundWithin all 0 n
  pub few : AreFew all
  pub sound : AreSoundEntries board cap all

-- some open position leads to a solution with at most m pushes in all
pub record IsOnTheWay (board : Board) (m : ℕ) (all : List Node) : Type 0 where
  pub place : ℕ
  pub entry : Node
  pub least : ℕ
  pub rest : ℕ
  pub at : slice_get all place ≡ Some entry
  pub is_open : entry.least ≡ Some least
  pub low : least ≤ m
  pub few : entry.pushes + rest ≤ m
  pub solvable : SolvableWithin board rest entry.position

-- each open position has a least total of at least k
abbrev pub AreFrom : ℕ → List Node → Type 0
AreFrom k all = (i : ℕ) (x : Node) (least : ℕ) → slice_get all i ≡ Some x → x.least ≡ Some least → k ≤ least

-- no position is open
abbrev pub NoneIsOpen : List Node → Type 0
NoneIsOpen all = (i : ℕ) (x : Node) → slice_get all i ≡ Some x → x.least ≡ None

-- ---- the laws

-- where the start is solvable within m pushes, which the cap allows, some open position leads to a solution with at
-- most m
abbrev pub NothingIsLost : Board → Type 0
NothingIsLost board =
    IsLevel board → (cap : Option ℕ) (all : List Node) (m : ℕ) → IsSearchUnderWay board cap all → Allows cap m →
    SolvableWithin board m (start board) → IsOnTheWay board m all

-- each solution that the cap allows has at least k pushes if each open position has a least total of at least k
abbrev pub LeastBounds : Board → Type 0
LeastBounds board =
    IsLevel board → (cap : Option ℕ) (all : List Node) (k : ℕ) → IsSearchUnderWay board cap all → AreFrom k all →
    (ds : List Dir) (ps : List Push) → IsSolution board ds ps → Allows cap (length ps) → k ≤ length ps

-- if no position is open, there is no solution that the cap allows
abbrev pub ClosedDecides : Board → Type 0
ClosedDecides board = IsLevel board → (cap : Option ℕ) (all : List Node) → IsSearchUnderWay board cap all →
    NoneIsOpen all → (ds : List Dir) (ps : List Push) → IsSolution board ds ps → ¬ (Allows cap (length ps))
