-- The events of a book. Each defines the book after it as a function of the book before.
use Rattle.std.specs.Prelude.{◌≡◌, ◌≢◌, ℕ, suc, ◌+◌, ◌<◌, ◌≤◌, Bool, true, false, ◌==◌, ◌&&◌, not, List, [], ◌∷◌, ◌++◌}
use Rattle.std.specs.Prelude.{length, fold, replicate, slice_get}
use Rattle.std.specs.Prelude.{slice_index_or, slice_set, Option, None, Some, ◌⊎◌}
use Rattle.std.specs.Map.{lookup}
use Rattle.std.specs.List.{list_any}
use Rattle.grid.specs.declared.square.Push.{Push}
use Rattle.grid.specs.Board.{Board, Scene}
use Rattle.layers.specs.declared.book.Claim.{Claim}
use Rattle.layers.specs.declared.book.Closed.{Closed as Report}
use Rattle.grid.specs.declared.limits.TheConstants.{MAX_BOXES}
use Rattle.grid.specs.Lawful.{box_count}
use Rattle.layers.specs.declared.fault.BookFault.{BookFault}
use Rattle.layers.specs.declared.fault.BookFault.TheVariants.{TooManyBoxes, OutOfMemory as BookOutOfMemory}
use Rattle.layers.specs.declared.fault.BeginFault.{BeginFault}
use Rattle.layers.specs.declared.fault.BeginFault.TheVariants.{OtherLevel as BeginOtherLevel}
use Rattle.layers.specs.declared.fault.BeginFault.TheVariants.{OtherLayer as BeginOtherLayer}
use Rattle.layers.specs.declared.fault.BeginFault.TheVariants.{OutOfMemory as BeginOutOfMemory}
use Rattle.layers.specs.declared.fault.Refusal.{Refusal}
use Rattle.layers.specs.declared.fault.Refusal.TheVariants.{OtherLevel, OtherLayer, NoSuchRank, Double, Over}
use Rattle.layers.specs.declared.fault.Refusal.TheVariants.{OutOfMemory}
use Rattle.layers.specs.declared.fault.CloseFault.{CloseFault}
use Rattle.layers.specs.declared.fault.CloseFault.TheVariants.{NotAll, OutOfMemory as CloseOutOfMemory}
use Rattle.layers.specs.declared.fault.JoinFault.{JoinFault}
use Rattle.layers.specs.declared.fault.JoinFault.TheVariants.{NotWhole, OutOfMemory as JoinOutOfMemory}
use Rattle.successors.specs.declared.parcel.Successor.{Successor}
use Rattle.store.specs.Entries.{Origin, OpenEntry, same_scene, Closed, places_of}
use Rattle.successors.specs.Shares.{share_of}
use Rattle.successors.specs.Problems.{Problem}
use Rattle.successors.specs.Reaching.{total}
use Rattle.layers.specs.LayerView.{LayerView}
use Rattle.successors.specs.ParcelView.{ParcelView}
use Rattle.layers.specs.BookView.{BookView, IsShareOfLayer, IsDone, last_layer}
use Rattle.store.specs.Entering.{entered}

-- ---- a new book

-- a new book has closed layer 0 and has begun nothing
pub record IsNewBook (problem : Problem) (limit workers share shares : ℕ) (v : BookView) : Type 0 where
  pub made_with : (v.level ≡ problem) × (v.limit ≡ limit) × (v.workers ≡ workers) × (v.share ≡ share) × (v.shares ≡ shares)
  pub closed : (es : List Closed) × (v.closed ≡ es ∷ []) × IsShareOfLayer problem shares share 0 es
  pub begun : v.begun ≡ false
  pub nothing : (v.claimed ≡ []) × (v.done ≡ []) × (v.waiting ≡ [])
  pub tallies : v.tallies ≡ replicate workers 0
  pub over : v.over ≡ false

-- each of the books is new, and is the share of its index in the list
abbrev pub AreNewInOrder : Problem → ℕ → ℕ → ℕ → List BookView → Type 0
AreNewInOrder problem limit workers shares books =
    (i : ℕ) (v : BookView) → slice_get books i ≡ Some v → IsNewBook problem limit workers i shares v

-- the new books of all shares, share 0 first
abbrev pub AreNewShares : Problem → ℕ → ℕ → ℕ → List BookView → Type 0
AreNewShares problem limit workers shares books = (length books ≡ shares) × AreNewInOrder problem limit workers shares books

-- why a book is not made
abbrev pub BookRefused : Board → BookFault → Type 0
BookRefused board TooManyBoxes = MAX_BOXES < box_count board
BookRefused board BookOutOfMemory = box_count board ≤ MAX_BOXES

-- the position at an index of a closed layer's list
abbrev pub closed_place : List (List Closed) → ℕ → ℕ → Option Scene
closed_place lists k i = slice_get (places_of (slice_index_or lists k [])) i

-- ---- begin

-- the layer is the last closed one of the same level and cap, and has not begun
abbrev pub MayBegin : BookView → LayerView → Type 0
MayBegin v layer = (layer.level ≡ v.level) × (layer.number ≡ last_layer v) × (v.begun ≡ false)

-- the layer is the last closed one of the same level and cap, and has begun
abbrev pub HasBegun : BookView → LayerView → Type 0
HasBegun v layer = (layer.level ≡ v.level) × (layer.number ≡ last_layer v) × (v.begun ≡ true)

-- after a begin all ranks of the layer are free, and no position is open
abbrev pub with_begun : BookView → ℕ → BookView
with_begun v ranks =
    record v { begun = true; claimed = replicate ranks false; done = replicate ranks false; waiting = [] }

-- why a begin is refused; if two reasons apply, the first in this order
abbrev pub BeginRefused : BookView → LayerView → BeginFault → Type 0
BeginRefused v layer BeginOtherLevel = ¬ (layer.level ≡ v.level)
BeginRefused v layer BeginOtherLayer = (layer.level ≡ v.level) × ((layer.number ≢ last_layer v) ⊎ (v.begun ≡ true))
BeginRefused v layer BeginOutOfMemory = MayBegin v layer

-- ---- claim

-- the rank is claimed or done
abbrev pub IsClaimedOrDone : BookView → ℕ → Type 0
IsClaimedOrDone v r = (slice_index_or v.claimed r false ≡ true) ⊎ (slice_index_or v.done r false ≡ true)

-- the rank is neither claimed nor done
abbrev pub IsFreeRank : BookView → ℕ → Type 0
IsFreeRank v r = (slice_get v.claimed r ≡ Some false) × (slice_get v.done r ≡ Some false)

-- a claim gives the least rank that is neither claimed nor done, and marks it claimed; or nothing, if each rank is
-- taken, and so if nothing has begun
abbrev pub ClaimAnswer : BookView → Option Claim → BookView → Type 0
ClaimAnswer v None after = ((r : ℕ) → r < length v.done → IsClaimedOrDone v r) × (after ≡ v)
ClaimAnswer v (Some claim) after =
    (claim.layer ≡ last_layer v) × IsFreeRank v claim.rank × ((r : ℕ) → r < claim.rank → IsClaimedOrDone v r) ×
    (after ≡ record v {
      claimed = slice_set v.claimed claim.rank true;
    })

-- ---- hand back

-- the position is in a closed list
abbrev pub is_closed : List (List Closed) → Scene → Bool
is_closed lists m = list_any (λ es. list_any (λ e. same_scene m e.0) es) lists

-- the position is of the book's share and in no closed list
abbrev pub is_wanted : BookView → Scene → Bool
is_wanted v m = (share_of v.shares m == v.share) && not (is_closed v.closed m)

-- the open positions after the successors of a rank have entered
abbrev pub all_entered : BookView → ℕ → List Successor → List (OpenEntry Scene Push)
all_entered v rank ss = fold (entered (is_wanted v) rank) v.waiting ss

-- the book after a parcel was accepted: its rank is done, the worker's tally is one more, its successors have entered
abbrev pub with_parcel : BookView → ℕ → ParcelView → BookView
with_parcel v worker parcel = record v {
  done = slice_set v.done parcel.rank true;
  waiting = all_entered v parcel.rank parcel.successors;
  tallies = slice_set v.tallies worker (suc (slice_index_or v.tallies worker 0));
}

-- the parcel is of a rank of the last closed layer, which has begun
abbrev pub IsAtWork : BookView → ParcelView → Type 0
IsAtWork v parcel = (parcel.level ≡ v.level) × (parcel.layer ≡ last_layer v) × (parcel.rank < length v.done)

-- the book is over, or would hold more positions than its limit
abbrev pub ExceedsLimit : BookView → ParcelView → Type 0
ExceedsLimit v parcel =
    (v.over ≡ true) ⊎ (v.limit < total v.closed + length (all_entered v parcel.rank parcel.successors))

-- only running out of memory can refuse the parcel
abbrev pub MayEnter : BookView → ParcelView → Type 0
MayEnter v parcel = IsAtWork v parcel × (slice_get v.done parcel.rank ≡ Some false) × (v.over ≡ false)
    × (total v.closed + length (all_entered v parcel.rank parcel.successors) ≤ v.limit)

-- why a parcel is refused; if several reasons apply, the first in this order
abbrev pub HandBackRefused : BookView → ParcelView → Refusal → Type 0
HandBackRefused v parcel OtherLevel = ¬ (parcel.level ≡ v.level)
HandBackRefused v parcel OtherLayer = (parcel.level ≡ v.level) × (parcel.layer ≢ last_layer v)
HandBackRefused v parcel NoSuchRank =
    (parcel.level ≡ v.level) × (parcel.layer ≡ last_layer v) × (length v.done ≤ parcel.rank)
HandBackRefused v parcel Double = IsAtWork v parcel × (slice_get v.done parcel.rank ≡ Some true)
HandBackRefused v parcel Over = IsAtWork v parcel × (slice_get v.done parcel.rank ≡ Some false) × ExceedsLimit v parcel
HandBackRefused v parcel OutOfMemory = MayEnter v parcel

-- a refused parcel changes nothing, except that Over marks the book over
abbrev pub after_refusal : BookView → Refusal → BookView
after_refusal v OtherLevel = v
after_refusal v OtherLayer = v
after_refusal v NoSuchRank = v
after_refusal v Double = v
after_refusal v Over = record v { over = true }
after_refusal v OutOfMemory = v

-- ---- reopen

-- the claimed ranks are exactly the done ones
abbrev pub with_reopened : BookView → BookView
with_reopened v = record v { claimed = v.done }

-- ---- close

-- the layer has begun and each of its ranks is done
abbrev pub AllDone : BookView → Type 0
AllDone v = (v.begun ≡ true) × ((r : ℕ) → r < length v.done → IsDone v r)

-- the book after a close: the open positions are the next closed list, by rank and push; nothing has begun
abbrev pub with_closed : BookView → List Closed → BookView
with_closed v es = record v { closed = v.closed ++ es ∷ []; begun = false; claimed = []; done = []; waiting = [] }

-- es is the open positions in the order of their origins
pub record IsSortedOpen (v : BookView) (es : List Closed) : Type 0 where
  pub from : (i : ℕ) (m : Scene) (o : Option (Origin Push)) → slice_get es i ≡ Some (m, o) →
      (p : Origin Push) × (o ≡ Some p) × (lookup (same_scene m) v.waiting ≡ Some p)
  pub all : length es ≡ length v.waiting
  pub next : IsShareOfLayer v.level v.shares v.share (length v.closed) es

-- a close that is accepted
abbrev pub IsClosedBy : BookView → Report → BookView → Type 0
IsClosedBy v report after =
    AllDone v × ((es : List Closed) × IsSortedOpen v es × (after ≡ with_closed v es) ×
    (report.layer ≡ length v.closed) × (report.count ≡ length es))

-- why a close is refused
abbrev pub CloseRefused : BookView → CloseFault → Type 0
CloseRefused v NotAll = (v.begun ≡ false) ⊎ ((r : ℕ) × (slice_get v.done r ≡ Some false))
CloseRefused v CloseOutOfMemory = AllDone v

-- ---- join

-- the book is share i beside the first one: of the same level, cap, limit and number of shares, at the same last
-- closed layer
abbrev pub IsShareBeside : BookView → ℕ → BookView → Type 0
IsShareBeside first i v = (v.share ≡ i) × (v.level ≡ first.level) × (v.limit ≡ first.limit) × (v.shares ≡ first.shares)
    × (length v.closed ≡ length first.closed)

-- the books are all the shares, in order, of one level, cap, limit and number of shares, at the same last closed layer
pub record AreAllShares (books : List BookView) : Type 0 where
  pub first : BookView
  pub head : slice_get books 0 ≡ Some first
  pub all : length books ≡ first.shares
  pub each : (i : ℕ) (v : BookView) → slice_get books i ≡ Some v → IsShareBeside first i v

-- the layer is that of the books' level, at their last closed layer
abbrev pub IsJoinOf : List BookView → LayerView → Type 0
IsJoinOf books layer = AreAllShares books ×
    ((v : BookView) → slice_get books 0 ≡ Some v → (layer.level ≡ v.level) × (layer.number ≡ last_layer v))

-- why books are not joined
abbrev pub JoinRefused : List BookView → JoinFault → Type 0
JoinRefused books NotWhole = ¬ (AreAllShares books)
JoinRefused books JoinOutOfMemory = AreAllShares books
