-- The events of a book, each with its result, and lists of them in any order.
use Rattle.std.specs.Prelude.{◌≡◌, ℕ, ◌<◌, List, [], ◌∷◌, length, slice_get, Option, Some}
use Rattle.layers.specs.declared.book.Claim.{Claim}
use Rattle.layers.specs.declared.book.Closed.{Closed as Report}
use Rattle.layers.specs.declared.fault.BeginFault.{BeginFault}
use Rattle.layers.specs.declared.fault.Refusal.{Refusal}
use Rattle.layers.specs.declared.fault.CloseFault.{CloseFault}
use Rattle.layers.specs.LayerView.{LayerView, IsWhole}
use Rattle.successors.specs.ParcelView.{ParcelView, IsParcel}
use Rattle.layers.specs.BookView.{BookView}
use Rattle.store.specs.Entries.{Closed}
use Rattle.layers.specs.Books.{MayBegin, with_begun, BeginRefused, ClaimAnswer, MayEnter, with_parcel, HandBackRefused}
use Rattle.layers.specs.Books.{after_refusal, with_reopened}
use Rattle.layers.specs.Books.{IsClosedBy, CloseRefused}

-- an event with its answer: a layer begins or is refused; a rank is claimed, or none is left; a worker's parcel is
-- accepted or refused; claimed ranks are freed; the next layer closes or is refused
pub data BookEvent : Type 0 where
  begins : LayerView → BookEvent
  begin_refused : LayerView → BeginFault → BookEvent
  claims : Option Claim → BookEvent
  hands_back : ℕ → ParcelView → BookEvent
  hand_back_refused : ℕ → ParcelView → Refusal → BookEvent
  reopens : BookEvent
  closes : Report → BookEvent
  close_refused : CloseFault → BookEvent

-- the event may happen to the book v, which is then the book after.  Any whole layer may be begun and any parcel
-- handed back, of whatever level, layer and rank, as often as one likes and by any of the workers.
abbrev pub Happens : BookView → BookEvent → BookView → Type 0
Happens v (begins layer) after = IsWhole layer × MayBegin v layer × (after ≡ with_begun v (length layer.places))
Happens v (begin_refused layer fault) after = IsWhole layer × BeginRefused v layer fault × (after ≡ v)
Happens v (claims answer) after = ClaimAnswer v answer after
Happens v (hands_back worker parcel) after =
    (worker < v.workers) × IsParcel parcel × MayEnter v parcel × (after ≡ with_parcel v worker parcel)
Happens v (hand_back_refused worker parcel refusal) after =
    (worker < v.workers) × IsParcel parcel × HandBackRefused v parcel refusal
    × (after ≡ after_refusal v refusal)
Happens v reopens after = after ≡ with_reopened v
Happens v (closes report) after = IsClosedBy v report after
Happens v (close_refused fault) after = CloseRefused v fault × (after ≡ v)

-- the events happen in order, the first to the book before, and the last leaves the book after
pub data History : BookView → List BookEvent → BookView → Type 0 where
  nothing : {v : BookView} → History v [] v
  event : {v m w : BookView} {e : BookEvent} {es : List BookEvent} → Happens v e m → History m es w → History v (e ∷ es) w

-- the two books were made with the same level and numbers
abbrev pub AreMadeAlike : BookView → BookView → Type 0
AreMadeAlike v w =
    (v.level ≡ w.level) × (v.limit ≡ w.limit) × (v.workers ≡ w.workers) × (v.share ≡ w.share) × (v.shares ≡ w.shares)

-- each list that v has closed has the same index in w
abbrev pub KeepsClosed : BookView → BookView → Type 0
KeepsClosed v w = (k : ℕ) (es : List Closed) → slice_get v.closed k ≡ Some es → slice_get w.closed k ≡ Some es

-- a closed list that both have is one list: the same positions in the same order, each with the same rank and push
abbrev pub CloseAlike : BookView → BookView → Type 0
CloseAlike v w =
    (k : ℕ) (es fs : List Closed) → slice_get v.closed k ≡ Some es → slice_get w.closed k ≡ Some fs → es ≡ fs
