-- What the calls of a search ask for and tell, each under one name.
use Rattle.std.specs.Prelude.{◌≡◌, ℕ, zero, suc, ◌+◌, ◌*◌, ◌-◌, ◌≤◌, ◌<◌, ◌⊎◌, min, List, [], ◌∷◌, ◌++◌}
use Rattle.std.specs.Prelude.{Bool, true, IsTrue}
use Rattle.std.specs.Prelude.{length, slice_get, slice_set, ◌^◌}
use Rattle.std.specs.Prelude.{Option, None, Some}
use Rattle.std.specs.List.{Contains}
use Rattle.grid.specs.declared.dir.Dir.{Dir}
use Rattle.grid.specs.declared.square.Push.{Push}
use Rattle.grid.specs.Board.{Board, Scene, IsSolved, start}
use Rattle.grid.specs.Masks.{has_bit}
use Rattle.grid.specs.States.{FitsLevel}
use Rattle.grid.specs.Lawful.{box_count}
use Rattle.grid.specs.Plays.{Play, Any}
use Rattle.area.specs.Area.{IsNorm}
use Rattle.area.specs.Pushes.{CanPush}
use Rattle.successors.specs.Expansion.{after_push}
use Rattle.prices.specs.Solving.{Allows, SolvableWithin}
use Rattle.prover.specs.declared.pushing.Expanded.{Expanded}
use Rattle.prover.specs.declared.pushing.Opened.{Opened}
use Rattle.prover.specs.declared.queue.Ticket.{Ticket}
use Rattle.store.specs.Visited.{Node, VisitedView, with_least}
use Rattle.prover.specs.Frontier.{IsReachedAfter, IsTotal, Keeps, AreFew, AreFrom, ComesFrom}
use Rattle.store.specs.Earlier.{IsFoundWithin}
use Rattle.prover.specs.Frontier.{IsSearchUnderWay}

-- ---- the queue

-- a ticket of the place waits, with this least total
abbrev pub Waits : List Ticket → ℕ → ℕ → Type 0
Waits tickets least place = (t : Ticket) × Contains tickets t × (t.least.0 ≡ least) × (t.place ≡ place)

-- all that wait still wait
abbrev pub StillWait : List Ticket → List Ticket → Type 0
StillWait old new = (least place : ℕ) → Waits old least place → Waits new least place

-- every ticket that waited still waits, except this one
abbrev pub OthersWait : Ticket → List Ticket → List Ticket → Type 0
OthersWait t old new =
    (least place : ℕ) → Waits old least place → Waits new least place ⊎ ((least ≡ t.least.0) × (place ≡ t.place))

-- the ticket is the first, and none that waits has a lesser total
pub record IsFirstTicket (tickets : List Ticket) (t : Ticket) : Type 0 where
  pub at : slice_get tickets 0 ≡ Some t
  pub least : (least place : ℕ) → Waits tickets least place → t.least.0 ≤ least

-- each open position waits
abbrev pub IsQueued : List Node → List Ticket → Type 0
IsQueued all tickets =
    (i : ℕ) (x : Node) (least : ℕ) → slice_get all i ≡ Some x → x.least ≡ Some least → Waits tickets least i

-- ---- how what was found changes

-- a search is under way, and what it has found is of the board's size
pub record IsSearchOnBoard (board : Board) (cap : Option ℕ) (v : VisitedView) : Type 0 where
  pub under_way : IsSearchUnderWay board cap v.entries
  pub boxes : v.boxes ≡ box_count board
  pub squares : v.squares ≡ length board.cells

-- both are for positions of one size
abbrev pub SameSize : VisitedView → VisitedView → Type 0
SameSize old new = (new.boxes ≡ old.boxes) × (new.squares ≡ old.squares)

-- what was found is of the board's size
abbrev pub HasSize : Board → VisitedView → Type 0
HasSize board v = (v.boxes ≡ box_count board) × (v.squares ≡ length board.cells)

-- each position keeps its place, and its pushes do not grow
abbrev pub KeepPlaces : List Node → List Node → Type 0
KeepPlaces old new = (i : ℕ) (x : Node) → slice_get old i ≡ Some x →
    (y : Node) × (slice_get new i ≡ Some y) × (y.position ≡ x.position) × (y.pushes ≤ x.pushes)

-- the entries with at most k pushes are unchanged
abbrev pub StayBelow : ℕ → List Node → List Node → Type 0
StayBelow k old new = (i : ℕ) (x : Node) → slice_get old i ≡ Some x → x.pushes ≤ k → slice_get new i ≡ Some x

-- how often an open position's least total, which is less than 2^32, can still grow before it is closed; 0 once it is
abbrev pub openness : Option ℕ → ℕ
openness None = 0
openness (Some least) = 4294967296 - least

-- an upper bound on the expansions of the positions that were found: an expansion closes its position or makes the
-- least total greater, and a closed position is opened again only with fewer pushes
abbrev pub turns : List Node → ℕ
turns [] = 0
turns (x ∷ all) = 4294967297 * x.pushes + openness x.least + turns all

-- how many more times a search of no more positions than the limit can turn
abbrev pub turns_left : ℕ → List Node → ℕ
turns_left limit all = turns all + (limit - length all) * (4294967297 * limit + 4294967297)

-- each position keeps its place, and no more turns are left
pub record GetsOn (old new : List Node) : Type 0 where
  pub still : KeepPlaces old new
  pub more : length old ≤ length new
  pub turns : (limit : ℕ) → length new ≤ limit → turns_left limit new ≤ turns_left limit old

-- the entry is noted, if its position was not found with as few pushes
pub record Enters (old new : List Node) (e : Node) : Type 0 where
  pub still : KeepPlaces old new
  pub below : StayBelow e.pushes old new
  pub found : IsFoundWithin new e.pushes e.position
  pub each : (i : ℕ) (y : Node) → slice_get new i ≡ Some y → (slice_get old i ≡ Some y) ⊎ (y ≡ e)
  pub few : e.pushes ≤ length old → AreFew old → AreFew new
  pub goes_on : e.pushes ≤ length old → GetsOn old new

-- the position at the place is open with this least total, and no open one has a lesser total
abbrev pub IsLeastOpen : List Node → ℕ → ℕ → Type 0
IsLeastOpen all place least = (x : Node) × (slice_get all place ≡ Some x) × (x.least ≡ Some least) × AreFrom least all

-- the position has the place, found with k pushes
abbrev pub IsFoundAt : List Node → ℕ → Scene → ℕ → Type 0
IsFoundAt all place s k = (x : Node) × (slice_get all place ≡ Some x) × (x.position ≡ s) × (x.pushes ≡ k)

-- the position that is expanded is at its place, found with as many pushes, and open with a least total of at most
-- `reach`
pub record IsWaiting (all : List Node) (from : Expanded) : Type 0 where
  pub entry : Node
  pub least : ℕ
  pub at : slice_get all from.place ≡ Some entry
  pub same : entry.position ≡ from.position
  pub count : entry.pushes ≡ from.pushes
  pub is_open : entry.least ≡ Some least
  pub near : least ≤ from.reach

-- the new list has this least total at the place, and is the same elsewhere
abbrev pub HasLeastAt : List Node → ℕ → Option ℕ → List Node → Type 0
HasLeastAt old place least new =
    (x : Node) → slice_get old place ≡ Some x → new ≡ slice_set old place (with_least least x)

-- ---- expansions

-- the search has the position that is expanded at its place
pub record IsExpanding (board : Board) (cap : Option ℕ) (v : VisitedView) (from : Expanded) : Type 0 where
  pub searched : IsSearchOnBoard board cap v
  pub at_place : IsFoundAt v.entries from.place from.position from.pushes
  pub few : suc from.pushes < 2 ^ 32

-- an expansion of a position with k pushes has gone on: only entries with more pushes change
pub record Widens (board : Board) (cap : Option ℕ) (k : ℕ) (old new : VisitedView) : Type 0 where
  pub searched : IsSearchOnBoard board cap new
  pub below : StayBelow (suc k) old.entries new.entries
  pub goes_on : GetsOn old.entries new.entries

-- the lesser of a number, if there is one, and a total
abbrev pub lesser_total : Option ℕ → ℕ → Option ℕ
lesser_total None total = Some total
lesser_total (Some next) total = Some (min next total)

-- a cap that allows exactly the numbers below `next` that the cap allows, where `next` is above 0
abbrev pub tighter : Option ℕ → Option ℕ → Option ℕ
tighter cap None = cap
tighter None (Some next) = Some (next - 1)
tighter (Some most) (Some next) = Some (min most (next - 1))

-- the least total of the pushes that were left for later, if there is one, is greater than `reach`, and the cap allows
-- it
abbrev pub IsLater : Option ℕ → ℕ → Option ℕ → Type 0
IsLater cap reach next = (total : ℕ) → next ≡ Some total → (reach < total) × Allows cap total

-- a push may have been left for later: the least total of those does not grow, and stays greater than `reach`
pub record Defers (cap : Option ℕ) (reach : ℕ) (old new : Option ℕ) : Type 0 where
  pub narrows : (m : ℕ) → Allows (tighter cap new) m → Allows (tighter cap old) m
  pub later : IsLater cap reach old → IsLater cap reach new

-- the expansion keeps what it has to, for every number of pushes that the cap allows
abbrev pub Expands : Board → Option ℕ → (Scene → Type 0) → ℕ → Scene → Type 0
Expands board cap Kept k s = (most : ℕ) → Allows cap most → Keeps board most Kept k s

-- a push after k pushes is done: if a play that the cap allows goes on with it and ends solved, some kept position is
-- solvable with as few pushes
abbrev pub IsPushDone : Board → Option ℕ → (Scene → Type 0) → ℕ → Scene → Push → Type 0
IsPushDone board cap Kept k s p = (m : ℕ) → Allows cap (k + suc m) → SolvableWithin board m (after_push board s p) →
    (t : Scene) × Kept t × SolvableWithin board m t

-- the push is to be tried: with `only` just those of held boxes, otherwise every push
abbrev pub IsChosen : Bool → List ℕ → Push → Type 0
IsChosen only held p = IsTrue only → has_bit held p.square ≡ true

-- each of the first `count` pushes that is to be tried is done
abbrev pub ArePushesDone : Board → Option ℕ → (Scene → Type 0) → (Push → Type 0) → ℕ → Scene → List Push → ℕ → Type 0
ArePushesDone board cap Kept Tried k s pushes count =
    (i : ℕ) (p : Push) → i < count → slice_get pushes i ≡ Some p → Tried p → IsPushDone board cap Kept k s p

-- the position can be expanded: it fits the level, a play leads to it with these pushes, and one more can be counted
pub record IsExpandable (board : Board) (from : Expanded) : Type 0 where
  pub fits : FitsLevel board from.position
  pub reached : IsReachedAfter board from.pushes from.position
  pub few : suc from.pushes < 2 ^ 32

-- the position is one of those that the expansion opened
abbrev pub IsOpenedPosition : List Opened → Scene → Type 0
IsOpenedPosition opened t = (i : ℕ) × (o : Opened) × (slice_get opened i ≡ Some o) × (o.position ≡ t)

-- a push of the expanded position leads to the opened one, which has a true total that the cap allows
pub record IsOpenedBy (board : Board) (cap : Option ℕ) (from : Expanded) (o : Opened) : Type 0 where
  pub fits : FitsLevel board o.position
  pub can : CanPush board from.position o.push
  pub norm : IsNorm board (after_push board from.position o.push) o.position
  pub total : IsTotal board cap (suc from.pushes) o.position o.total

abbrev pub AreOpenedBy : Board → Option ℕ → Expanded → List Opened → Type 0
AreOpenedBy board cap from opened = (i : ℕ) (o : Opened) → slice_get opened i ≡ Some o → IsOpenedBy board cap from o

-- what was opened stays so, and what is new is opened by a push of the expanded position
pub record Opens (board : Board) (cap : Option ℕ) (from : Expanded) (old new : List Opened) : Type 0 where
  pub still : (t : Scene) → IsOpenedPosition old t → IsOpenedPosition new t
  pub each : AreOpenedBy board cap from old → AreOpenedBy board cap from new

-- the position is one of those that the expansion of a position with k pushes opened, or was found before with no more
-- pushes than it has after one more
abbrev pub IsKept : List Node → ℕ → List Opened → Scene → Type 0
IsKept all k opened t = IsOpenedPosition opened t ⊎ IsFoundWithin all (suc k) t

-- an expansion has opened these positions beside those that were found, and left others for later, the least total of
-- which is `next`
pub record IsExpansion (board : Board) (cap : Option ℕ) (all : List Node) (from : Expanded) (opened : List Opened)
    (next : Option ℕ) :
    Type 0
  where
    pub each : AreOpenedBy board cap from opened
    pub expands : Expands board (tighter cap next) (IsKept all from.pushes opened) from.pushes from.position
    pub later : IsLater cap from.reach next

-- the first of the opened positions were found with at most k pushes
abbrev pub AreEntered : List Node → List Opened → ℕ → ℕ → Type 0
AreEntered all opened k count = (i : ℕ) (o : Opened) → i < count → slice_get opened i ≡ Some o →
    IsFoundWithin all k o.position

-- the numbers of an expansion fit their types, with one more push
pub record FitsTypes (from : Expanded) : Type 0 where
  pub pushes : suc from.pushes < 2 ^ 32
  pub reach : from.reach < 2 ^ 32

-- the position can be expanded, and is not solved
pub record MayBeExpanded (board : Board) (from : Expanded) : Type 0 where
  pub expandable : IsExpandable board from
  pub range : FitsTypes from
  pub unsolved : ¬ (IsSolved board from.position)

-- ---- reading back

-- a play from the start with these pushes leads to a state whose normal form is the position
abbrev pub AreLeading : Board → List Push → Scene → Type 0
AreLeading board ps n = (ds : List Dir) × (s : Scene) × Play board Any (start board) ds ps s × IsNorm board s n

-- each position that was found comes from its parent, or is the start
abbrev pub AreTraced : Board → List Node → Type 0
AreTraced board all =
    (i : ℕ) (x : Node) → slice_get all i ≡ Some x → FitsLevel board x.position × ComesFrom board all x x.parent

-- with how many pushes the position at the place was found
abbrev pub pushes_at : List Node → ℕ → ℕ
pushes_at [] place = 0
pushes_at (x ∷ all) zero = x.pushes
pushes_at (x ∷ all) (suc place) = pushes_at all place

-- the pushes that were read back lead from one position to another, and are no more than what the second has above
-- the first
pub record AreReadBack (board : Board) (from to : Node) (late : List Push) : Type 0 where
  pub leading : (ps : List Push) → AreLeading board ps from.position → AreLeading board (ps ++ late) to.position
  pub few : length late + from.pushes ≤ to.pushes
