-- What one worker does to a book under its lock, and how it ends.
use Rattle.std.specs.Prelude.{◌≡◌, ℕ, suc, ◌+◌, ◌-◌, ◌*◌, ◌^◌, ◌<◌, ◌≤◌, min, Bool, true, false, Any, length, Some}
use Rattle.layers.specs.LayerView.{LayerView}
use Rattle.successors.specs.ParcelView.{ParcelView}
use Rattle.layers.specs.BookView.{BookView, IsLawfulBook, last_layer}
use Rattle.layers.specs.Books.{HandBackRefused, after_refusal}
use Rattle.claims.specs.declared.views.Hand.{Hand}
use Rattle.claims.specs.Hands.{LedgerView, DrawerView, Drew}
use Rattle.crew.specs.declared.end.End.{End}
use Rattle.crew.specs.declared.end.End.TheVariants.{Drained, Refused, Stopped, Foreign, NoPlace}

-- the book is of the layer's level, it has closed that layer last, and it is made for this number of workers, the
-- worker among them
pub record IsOwn (layer : LayerView) (workers worker : ℕ) (book : BookView) : Type 0 where
  pub level : layer.level ≡ book.level
  pub last : layer.number ≡ last_layer book
  pub made_for : book.workers ≡ workers
  pub member : worker < book.workers

-- the parcel is of the layer
abbrev pub IsOfLayer : LayerView → ParcelView → Type 0
IsOfLayer layer parcel = (parcel.level ≡ layer.level) × (parcel.layer ≡ layer.number)

-- the drawer is of this ledger, and has this place
abbrev pub IsAtPlace : LedgerView → ℕ → DrawerView → Type 0
IsAtPlace ledger place drawer = (drawer.ledger ≡ ledger) × (drawer.hand.place ≡ Some place)

-- the hand has seen this place taken
abbrev pub HasSeenTaken : ℕ → Hand → Type 0
HasSeenTaken place hand = Any (λ p. p ≡ place) hand.taken

-- the rank is one of the layer, and the drawer drew it
pub record HasDrawn (layer : LayerView) (ledger : LedgerView) (before : Hand) (rank : ℕ) (after : Hand) : Type 0 where
  pub within : rank < length layer.places
  pub drew : Drew ledger.len before (Some rank) after

-- how a draw ends a worker: it has the place of its number and is spent out
abbrev pub DrawEnds : ℕ → Hand → End → Type 0
DrawEnds worker after Drained = (after.place ≡ Some worker) × (after.spent ≡ true)
DrawEnds worker after Stopped = ⊥
DrawEnds worker after Foreign = ⊥
DrawEnds worker after NoPlace = ⊥
DrawEnds worker after (Refused refusal) = ⊥

-- how a hand back ends a worker: the book is not its own, or refuses the parcel
abbrev pub HandEnds : LayerView → ℕ → ℕ → BookView → ParcelView → End → Type 0
HandEnds layer workers worker book parcel Foreign = ¬ (IsOwn layer workers worker book)
HandEnds layer workers worker book parcel (Refused refusal) =
    IsOwn layer workers worker book × HandBackRefused book parcel refusal
HandEnds layer workers worker book parcel Drained = ⊥
HandEnds layer workers worker book parcel Stopped = ⊥
HandEnds layer workers worker book parcel NoPlace = ⊥

-- the book after a hand back that ended a worker: over, if it would pass its limit, and else unchanged
abbrev pub after_end : BookView → End → BookView
after_end book (Refused refusal) = after_refusal book refusal
after_end book Drained = book
after_end book Stopped = book
after_end book Foreign = book
after_end book NoPlace = book

-- a worker ends as stopped only if the gate may stop it
abbrev pub MayEnd : Bool → End → Type 0
MayEnd may_stop Stopped = may_stop ≡ true
MayEnd may_stop Drained = Unit {0}
MayEnd may_stop (Refused refusal) = Unit {0}
MayEnd may_stop Foreign = Unit {0}
MayEnd may_stop NoPlace = Unit {0}

-- the hand that a worker leaves: a drained one has the place of its number and is spent out, and one that got no place
-- has seen that place taken
abbrev pub EndsWith : ℕ → Hand → End → Type 0
EndsWith worker hand Drained = (hand.place ≡ Some worker) × (hand.spent ≡ true)
EndsWith worker hand NoPlace = HasSeenTaken worker hand
EndsWith worker hand (Refused refusal) = Unit {0}
EndsWith worker hand Stopped = Unit {0}
EndsWith worker hand Foreign = Unit {0}

-- a worker ends as refused only if a lawful book of its own did not accept a parcel of the layer, and as foreign only
-- if a lawful book was not its own
abbrev pub WasAnswered : LayerView → ℕ → ℕ → End → Type 0
WasAnswered layer workers worker (Refused refusal) =
    (book : BookView) × (parcel : ParcelView) × IsLawfulBook book × IsOfLayer layer parcel
    × HandEnds layer workers worker book parcel (Refused refusal)
WasAnswered layer workers worker Foreign = (book : BookView) × IsLawfulBook book × ¬ (IsOwn layer workers worker book)
WasAnswered layer workers worker Drained = Unit {0}
WasAnswered layer workers worker NoPlace = Unit {0}
WasAnswered layer workers worker Stopped = Unit {0}

-- ---- events and the gate

-- the number of an event that the gate gets: it counts from 1, and the greatest number stays
abbrev pub told : ℕ → ℕ
told n = min n (2 ^ 64 - 1)

-- the gate may have let the worker go on after each of its first `events` events
abbrev pub LetsGoOn : (ℕ → Bool → Bool) → ℕ → Type 0
LetsGoOn may_answer events = (n : ℕ) → 1 ≤ n → n ≤ events → may_answer (told n) true ≡ true

-- what the gate may have answered to a worker for its events: each time that it goes on; for the last event of a
-- stopped worker that it does not
abbrev pub MayAnswerEach : (ℕ → Bool → Bool) → ℕ → End → Type 0
MayAnswerEach may_answer events Stopped =
    (before : ℕ) × (events ≡ suc before) × LetsGoOn may_answer before × (may_answer (told events) false ≡ true)
MayAnswerEach may_answer events Drained = LetsGoOn may_answer events
MayAnswerEach may_answer events (Refused refusal) = LetsGoOn may_answer events
MayAnswerEach may_answer events Foreign = LetsGoOn may_answer events
MayAnswerEach may_answer events NoPlace = LetsGoOn may_answer events

-- the number of times that a book accepted a parcel of a worker that drew `drawn` ranks: for a drained worker each book
-- accepted each parcel; otherwise there are at most as many
abbrev pub WereAccepted : ℕ → ℕ → ℕ → End → Type 0
WereAccepted books drawn accepted Drained = accepted ≡ drawn * books
WereAccepted books drawn accepted (Refused refusal) = accepted ≤ drawn * books
WereAccepted books drawn accepted Stopped = accepted ≤ drawn * books
WereAccepted books drawn accepted Foreign = accepted ≤ drawn * books
WereAccepted books drawn accepted NoPlace = accepted ≤ drawn * books

-- a worker's events are the ranks that its hand has drawn since, and the parcels that books accepted; the gate was
-- called for each
pub record AsksTheGate (may_answer : ℕ → Bool → Bool) (books : ℕ) (before after : Hand) (end : End) : Type 0 where
  pub drawn : ℕ
  pub accepted : ℕ
  pub draws : length after.numbers ≡ length before.numbers + drawn
  pub parcels : WereAccepted books drawn accepted end
  pub answers : MayAnswerEach may_answer (drawn + accepted) end
