-- What contracts see of the positions that a book has found.
use Rattle.std.specs.Prelude.{⊤, ◌≡◌, ℕ, ◌<◌, ◌≤◌, Bool, false, ◌==◌, ◌||◌, not, is_some, List, [], ◌∷◌, ◌++◌, fold}
use Rattle.std.specs.Prelude.{map, take, drop, length, slice_get, Option}
use Rattle.std.specs.Prelude.{Some, None, if◌then◌else◌}
use Rattle.std.specs.Map.{lookup}
use Rattle.std.specs.Ordering.{is_gt, is_lt}
use Rattle.grid.specs.declared.dir.Dir.TheVariants.{D}
use Rattle.grid.specs.declared.square.Push.{Push}
use Rattle.grid.specs.Board.{Scene, push_cmp}
use Rattle.successors.specs.declared.parcel.Successor.{Successor}
use Rattle.store.specs.Entries.{Origin, OpenEntry, origin_cmp, same_scene, Closed, origin_of}
use Rattle.successors.specs.Shares.{share_of}
use Rattle.store.specs.Entering.{closed_entry, is_wanted_in, entered, offered}

-- the greatest number of boxes of a position, the number of squares of the grid, the closed entries in order, and the
-- open ones, with the pending offers entered
pub record FoundView : Type 0 where
  pub boxes : ℕ
  pub squares : ℕ
  pub seen : List Closed
  pub waiting : List (OpenEntry Scene Push)

-- the origin of an open entry; each open entry has one
abbrev pub origin_in : Option (Origin Push) → Origin Push
origin_in None = (0, record { square = 0; dir = D })
origin_in (Some o) = o

-- an entry of the map as an open one
abbrev pub open_entry : Closed → OpenEntry Scene Push
open_entry e = (e.0, origin_in e.1)

-- the entries before an index are closed, and those from it on are open
abbrev pub seen_of : ℕ → List Closed → List Closed
seen_of start es = take start es

abbrev pub open_of : ℕ → List Closed → List (OpenEntry Scene Push)
open_of start es = map open_entry (drop start es)

-- an offer enters: its position is offered with its origin, unless it is closed
abbrev pub let_in : List Closed → List (OpenEntry Scene Push) → OpenEntry Scene Push → List (OpenEntry Scene Push)
let_in seen waiting e = if is_some (lookup (same_scene e.0) seen) then waiting else offered waiting e.0 e.1

-- the open entries after offers have entered in order
abbrev pub all_let_in : List Closed → List (OpenEntry Scene Push) → List (OpenEntry Scene Push) → List (OpenEntry Scene Push)
all_let_in seen waiting offers = fold (let_in seen) waiting offers

-- what is found: the entries of the map before an index are closed, and those from it on are open, once the pending
-- offers have entered
abbrev pub found_view : ℕ → ℕ → ℕ → List Closed → List (OpenEntry Scene Push) → FoundView
found_view boxes squares start es pending = record {
  boxes = boxes;
  squares = squares;
  seen = seen_of start es;
  waiting = all_let_in (seen_of start es) (open_of start es) pending;
}

-- what is found is the same for both maps, each with its pending offers
abbrev pub StaysFound : ℕ → List Closed → List (OpenEntry Scene Push) → List Closed → List (OpenEntry Scene Push) → Type 0
StaysFound start es pending others other =
    (boxes squares : ℕ) → found_view boxes squares start others other ≡ found_view boxes squares start es pending

-- what is found after the wanted successors of a rank have entered
abbrev pub with_entered : FoundView → ℕ → ℕ → ℕ → List Successor → FoundView
with_entered v shares share rank ss = record {
  boxes = v.boxes;
  squares = v.squares;
  seen = v.seen;
  waiting = fold (entered (is_wanted_in v.seen shares share) rank) v.waiting ss;
}

-- the offer of a rank's successor, if its position is of the share
abbrev pub offer_of : ℕ → ℕ → ℕ → Successor → List (OpenEntry Scene Push)
offer_of shares share rank s = if share_of shares s.position == share then (s.position, (rank, s.push)) ∷ [] else []

-- the offers of a rank's successors
abbrev pub offers_of : ℕ → ℕ → ℕ → List Successor → List (OpenEntry Scene Push)
offers_of shares share rank [] = []
offers_of shares share rank (s ∷ ss) = offer_of shares share rank s ++ offers_of shares share rank ss

-- the index is within the entries, and each entry from it on has an origin
pub record IsFound (start : ℕ) (es : List Closed) : Type 0 where
  pub within : start ≤ length es
  pub opened : map closed_entry (open_of start es) ≡ drop start es

-- the entry has an origin that is no greater than the offered one
abbrev pub is_least : Option (Origin Push) → Origin Push → Bool
is_least None o = false
is_least (Some p) o = not (is_lt (origin_cmp push_cmp o p))

-- an offer of a position changes nothing: it is closed, or open with an origin that is no greater
abbrev pub keeps : List Closed → List (OpenEntry Scene Push) → Scene → Origin Push → Bool
keeps seen waiting m o = is_some (lookup (same_scene m) seen) || is_least (origin_of waiting m) o

-- each of the squares is less than n
abbrev pub AreBelow : ℕ → List ℕ → Type 0
AreBelow n [] = ⊤
AreBelow n (x ∷ xs) = (x < n) × AreBelow n xs

-- a position with at most boxes boxes on a grid of squares squares
pub record FitsGrid (boxes squares : ℕ) (m : Scene) : Type 0 where
  pub few : length m.boxes ≤ boxes
  pub below : AreBelow squares (m.player ∷ m.boxes)

-- each successor's position fits the boxes and the squares of what is found
pub record AllFit (v : FoundView) (ss : List Successor) : Type 0 where
  pub each : (i : ℕ) (s : Successor) → slice_get ss i ≡ Some s → FitsGrid v.boxes v.squares s.position

-- no origin of an open entry comes after o
abbrev pub NoneExceed : List (OpenEntry Scene Push) → Origin Push → Type 0
NoneExceed ws o = (i : ℕ) (x : OpenEntry Scene Push) → slice_get ws i ≡ Some x → is_gt (origin_cmp push_cmp x.1 o) ≡ false

-- the closed entries at first: a position without an origin, or none
abbrev pub first_entries : Option Scene → List Closed
first_entries None = []
first_entries (Some m) = (m, None) ∷ []
