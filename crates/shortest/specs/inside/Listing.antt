-- The states that a search lists.
use Rattle.std.specs.Prelude.{◌≡◌, ℕ, suc, ◌+◌, ◌≤◌, ◌<◌, List, [], ◌∷◌, ◌++◌, map, length, slice_get, Option}
use Rattle.std.specs.Prelude.{Some, None}
use Rattle.std.specs.Prelude.{◌⊎◌}
use Rattle.grid.specs.declared.square.Push.{Push}
use Rattle.grid.specs.Board.{Board, Scene, start}
use Rattle.grid.specs.Lawful.{box_count}
use Rattle.grid.specs.States.{FitsLevel}
use Rattle.area.specs.Pushes.{CanPush}
use Rattle.prices.specs.Solving.{SolvableWithin}
use Rattle.prices.specs.Fewest.{NoneHasFewer}
use Rattle.store.specs.Earlier.{IsFoundWithin}
use Rattle.successors.specs.Distances.{AreDistinct}
use Rattle.successors.specs.Expansion.{after_push}
use Rattle.store.specs.Visited.{Node, VisitedView}
use Rattle.shortest.specs.Shortest.{IsReachedBy}
use Rattle.shortest.specs.declared.listing.ListEnd.{ListEnd}
use Rattle.shortest.specs.declared.listing.ListEnd.TheVariants.{Whole, Limit, Stopped}

-- a level and the greatest number of pushes that is still wanted
pub record BoundsView : Type 0 where
  pub board : Board
  pub cap : ℕ

-- a play with these pushes leads to the listed state
pub record IsReachedState (board : Board) (most : ℕ) (x : Node) : Type 0 where
  pub fits : FitsLevel board x.position
  pub reached : IsReachedBy board x.pushes x.position
  pub few : x.pushes ≤ most

-- after k pushes and one more, no play solves the level with at most `most` pushes in all, or the state is listed
abbrev pub IsListedOrLost : Board → ℕ → List Node → ℕ → Scene → Push → Type 0
IsListedOrLost board most all k s p = (m : ℕ) → k + suc m ≡ most → SolvableWithin board m (after_push board s p) →
    IsFoundWithin all (suc k) (after_push board s p)

-- after each push that is possible in the listed state, the next state is listed or lost
abbrev pub KeepsEach : Board → ℕ → List Node → Node → Type 0
KeepsEach board most all x = (p : Push) → CanPush board x.position p →
    IsListedOrLost board most all x.pushes x.position p

-- the states are listed by their pushes, from the start on, and the first `done` of them are expanded
pub record AreStatesListed (board : Board) (most done : ℕ) (all : List Node) : Type 0 where
  pub begun : (x : Node) × (slice_get all 0 ≡ Some x) × (x.position ≡ start board) × (x.pushes ≡ 0)
  pub each : (i : ℕ) (x : Node) → slice_get all i ≡ Some x → IsReachedState board most x
  pub sorted : (i j : ℕ) (x y : Node) → i ≤ j → slice_get all i ≡ Some x → slice_get all j ≡ Some y →
      x.pushes ≤ y.pushes
  pub near : (i j : ℕ) (x y : Node) → done ≤ i → slice_get all i ≡ Some x → slice_get all j ≡ Some y →
      y.pushes ≤ suc x.pushes
  pub expanded : (i : ℕ) (x : Node) → i < done → slice_get all i ≡ Some x → KeepsEach board most all x

-- a list for states of the board's size, of which the first `done` are expanded
pub record IsStateList (board : Board) (most done : ℕ) (v : VisitedView) : Type 0 where
  pub listed : AreStatesListed board most done v.entries
  pub boxes : v.boxes ≡ box_count board
  pub squares : v.squares ≡ length board.cells

-- how the listing ends: all are expanded, or there are more than the limit, or the time is up, as `Late` says
abbrev pub EndsListing : Board → ℕ → ℕ → Type 0 → VisitedView → ListEnd → Type 0
EndsListing board most limit Late v Whole = IsStateList board most (length v.entries) v
EndsListing board most limit Late v Limit = (done : ℕ) × IsStateList board most done v × (limit < length v.entries)
EndsListing board most limit Late v Stopped = Late

-- the entry is new, or its state is listed with no more pushes and nothing changes
abbrev pub Lists : List Node → List Node → Node → Type 0
Lists old new e = ((new ≡ old) × IsFoundWithin old e.pushes e.position) ⊎ (new ≡ old ++ e ∷ [])

-- the state after `pushes` pushes is listed as `Lists` says; without a state nothing changes
abbrev pub ListsIf : List Node → List Node → ℕ → Option Scene → Type 0
ListsIf old new pushes None = new ≡ old
ListsIf old new pushes (Some s) =
    Lists old new (record { position = s; pushes = pushes; least = None; parent = None })

-- the state after a push, or none if no play goes on from there and ends solved with at most `left` pushes
abbrev pub IsAfter : Board → ℕ → Scene → Push → Option Scene → Type 0
IsAfter board left s p None = ¬ (SolvableWithin board left (after_push board s p))
IsAfter board left s p (Some t) = (t ≡ after_push board s p) × FitsLevel board t

-- the entry at the place has this state and number of pushes
abbrev pub IsEntryAt : List Node → ℕ → Scene → ℕ → Type 0
IsEntryAt all place s k = (x : Node) × (slice_get all place ≡ Some x) × (x.position ≡ s) × (x.pushes ≡ k)

-- after each of the first `count` pushes the state is listed or lost
abbrev pub ArePushesKept : Board → ℕ → List Node → ℕ → Scene → List Push → ℕ → Type 0
ArePushesKept board most all k s pushes count =
    (i : ℕ) (p : Push) → i < count → slice_get pushes i ≡ Some p → IsListedOrLost board most all k s p

-- a level, the fewest pushes of its solutions, and the listed states
pub record StatesView : Type 0 where
  pub board : Board
  pub most : ℕ
  pub entries : List Node

-- all states are expanded, each is listed once, and no solution has fewer pushes than `most`
pub record AreAllExpanded (v : StatesView) : Type 0 where
  pub listed : AreStatesListed v.board v.most (length v.entries) v.entries
  pub distinct : AreDistinct (map (λ (x : Node). x.position) v.entries)
  pub fewest : NoneHasFewer v.board v.most
  pub range : v.most < 4294967296
