-- The state of a search between two iterations and during one. Each iteration looks at the next layer and does its
-- ranks in the books, one for each share of the positions.
use Rattle.std.specs.Prelude.{◌≡◌, ℕ, suc, ◌+◌, ◌<◌, ◌≤◌, ◌⊎◌, true, false, not, List, length, count_by, slice_get}
use Rattle.std.specs.Prelude.{slice_index_or, slice_set, Some}
use Rattle.successors.specs.Problems.{Problem}
use Rattle.layers.specs.LayerView.{LayerView}
use Rattle.successors.specs.ParcelView.{ParcelView}
use Rattle.layers.specs.BookView.{BookView, IsDone}
use Rattle.layers.specs.Books.{HasBegun, with_begun}
use Rattle.layers.specs.Events.{AreMadeAlike}
use Rattle.solo.specs.inside.Searched.{SearchView}

-- ---- the books of a search

-- the book is a share of the level, made with these numbers
abbrev pub IsDealtBook : Problem → ℕ → ℕ → ℕ → ℕ → BookView → Type 0
IsDealtBook problem limit workers shares share v =
    (v.level ≡ problem) × (v.limit ≡ limit) × (v.workers ≡ workers) × (v.share ≡ share) × (v.shares ≡ shares)

-- the books are all the shares of the level in order, made with these numbers
pub record AreDealt (problem : Problem) (limit workers shares : ℕ) (books : List BookView) : Type 0 where
  pub all : length books ≡ shares
  pub each : (i : ℕ) (v : BookView) → slice_get books i ≡ Some v → IsDealtBook problem limit workers shares i v

-- each of the books has closed this number of layers, and has not begun the last one
abbrev pub ArePaused : ℕ → List BookView → Type 0
ArePaused closed books =
    (i : ℕ) (v : BookView) → slice_get books i ≡ Some v → (v.begun ≡ false) × (length v.closed ≡ closed)

-- the book is at work on the layer, which it has closed last
abbrev pub IsWorkingOn : LayerView → BookView → Type 0
IsWorkingOn layer v = HasBegun v layer × (length v.closed ≡ suc layer.number)

-- each of the books is at work on the layer
abbrev pub AreWorkingOn : LayerView → List BookView → Type 0
AreWorkingOn layer books = (i : ℕ) (v : BookView) → slice_get books i ≡ Some v → IsWorkingOn layer v

-- between two iterations each of the books, which are all the shares, has closed one layer more than the search looked
-- at, and has not begun it
pub record AreBetweenLayers (s : SearchView) (workers shares : ℕ) (books : List BookView) : Type 0 where
  pub dealt : AreDealt s.problem s.limit workers shares books
  pub paused : ArePaused (suc (length s.trail)) books

-- the search goes on: between two iterations, with more positions counted, no more than the limit
abbrev pub GoesOn : SearchView → SearchView → ℕ → ℕ → List BookView → Type 0
GoesOn before after workers shares books =
    AreBetweenLayers after workers shares books × (after.problem ≡ before.problem) × (after.limit ≡ before.limit) ×
    (before.positions < after.positions) × (after.positions ≤ after.limit)

-- ---- a layer begins

-- there are as many books as before, and each has changed as `After` says
abbrev pub HaveChanged : (BookView → BookView → Type 0) → List BookView → List BookView → Type 0
HaveChanged After before after =
    (length after ≡ length before) × ((i : ℕ) (v : BookView) → slice_get before i ≡ Some v →
    (w : BookView) × (slice_get after i ≡ Some w) × After v w)

-- each of the books has begun, with this number of ranks
abbrev pub HaveBegun : List BookView → ℕ → List BookView → Type 0
HaveBegun before ranks after = HaveChanged (λ v w. w ≡ with_begun v ranks) before after

-- each of the books is unchanged, or has begun
abbrev pub MayHaveBegun : List BookView → ℕ → List BookView → Type 0
MayHaveBegun before ranks after = HaveChanged (λ v w. (w ≡ v) ⊎ (w ≡ with_begun v ranks)) before after

-- ---- the ranks of a layer are done

-- the book is at work on the layer, with the same level, numbers and closed layers as before
pub record IsStillAt (before : BookView) (layer : LayerView) (book : BookView) : Type 0 where
  pub alike : AreMadeAlike before book
  pub closed : book.closed ≡ before.closed
  pub begun : HasBegun book layer
  pub ranks : length book.done ≡ length layer.places

-- the book is at work on the layer, and each rank that is not done is free
abbrev pub IsReopenedAt : LayerView → BookView → Type 0
IsReopenedAt layer book = IsStillAt book layer book × (book.claimed ≡ book.done)

-- the number of ranks of the layer at work that are not done
abbrev pub left_ranks : BookView → ℕ
left_ranks v = count_by not v.done

-- the tally of the worker has grown by ranks, and no other one has changed
abbrev pub IsCredited : ℕ → ℕ → BookView → BookView → Type 0
IsCredited worker ranks before after =
    after.tallies ≡ slice_set before.tallies worker (slice_index_or before.tallies worker 0 + ranks)

-- only the worker gets credit, for as many ranks as the ranks left have become fewer
abbrev pub IsDoneBy : ℕ → BookView → BookView → Type 0
IsDoneBy worker before after =
    (ranks : ℕ) × (left_ranks before ≡ left_ranks after + ranks) × IsCredited worker ranks before after

-- in each of several books only the worker gets credit for the ranks that were done
abbrev pub AreDoneBy : ℕ → List BookView → List BookView → Type 0
AreDoneBy worker before after = HaveChanged (IsDoneBy worker) before after

-- the parcel is of a rank of the layer
abbrev pub IsOfRank : LayerView → ℕ → ParcelView → Type 0
IsOfRank layer rank parcel = (parcel.level ≡ layer.level) × (parcel.layer ≡ layer.number) × (parcel.rank ≡ rank)

-- each claimed rank is done, except at most one
abbrev pub AreDoneBut : BookView → ℕ → Type 0
AreDoneBut book rank = (r : ℕ) → slice_index_or book.claimed r false ≡ true → IsDone book r ⊎ (r ≡ rank)

-- the parcel is of the one rank that is claimed and not done
pub record IsOnlyClaimed (before : BookView) (layer : LayerView) (book : BookView) (parcel : ParcelView) : Type 0 where
  pub still : IsStillAt before layer book
  pub of : IsOfRank layer parcel.rank parcel
  pub free : slice_get book.done parcel.rank ≡ Some false
  pub others : AreDoneBut book parcel.rank

-- the book after its limit was passed
abbrev pub with_over : BookView → BookView
with_over book = record book { over = true }
