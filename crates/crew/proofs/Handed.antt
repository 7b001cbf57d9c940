-- Workers that a book ends.
use Rattle.std.proofs.Common.{◌≡◌, ℕ, Bool, refl}
use Rattle.std.specs.Prelude.{Ok, Err}
use Rattle.claims.specs.declared.views.Hand.{Hand}
use Rattle.layers.specs.LayerView.{LayerView}
use Rattle.successors.specs.ParcelView.{ParcelView}
use Rattle.layers.specs.BookView.{BookView, IsLawfulBook}
use Rattle.crew.specs.Work.{IsOfLayer, HandEnds}
use Rattle.crew.specs.declared.end.End.{End}
use Rattle.crew.specs.declared.end.End.TheVariants.{Drained, Refused, Stopped, Foreign, NoPlace}
use Rattle.crew.specs.declared.event.Event.{Event}
use Rattle.crew.specs.inside.Ends.{HasEnded}
use Rattle.crew.specs.inside.Events.{EndsAtOnce}
use Rattle.crew.specs.inside.Handing.{WasHandedBack}

-- an end by a lawful book is as a worker may end
ends_by_book : (may_stop : Bool) (layer : LayerView) (workers worker : ℕ) (book : BookView) (parcel : ParcelView) (hand : Hand) (end : End) →
    IsOfLayer layer parcel → IsLawfulBook book → HandEnds layer workers worker book parcel end → HasEnded may_stop layer workers worker hand end
ends_by_book may_stop layer workers worker book parcel hand Foreign of lawful ends = record { may = tt; left = tt; answered = (book, lawful, ends) }
ends_by_book may_stop layer workers worker book parcel hand (Refused refusal) of lawful ends =
    record { may = tt; left = tt; answered = (book, parcel, lawful, of, ends) }
ends_by_book may_stop layer workers worker book parcel hand Drained of lawful ends = absurd ends
ends_by_book may_stop layer workers worker book parcel hand Stopped of lawful ends = absurd ends
ends_by_book may_stop layer workers worker book parcel hand NoPlace of lawful ends = absurd ends

-- and it comes with no event
ends_silently : (may : ℕ → Bool → Bool) (layer : LayerView) (workers worker nth : ℕ) (book : BookView) (parcel : ParcelView) (end : End) →
    HandEnds layer workers worker book parcel end → EndsAtOnce may nth nth end
ends_silently may layer workers worker nth book parcel Foreign ends = refl
ends_silently may layer workers worker nth book parcel (Refused refusal) ends = refl
ends_silently may layer workers worker nth book parcel Drained ends = absurd ends
ends_silently may layer workers worker nth book parcel Stopped ends = absurd ends
ends_silently may layer workers worker nth book parcel NoPlace ends = absurd ends

module _ (layer : LayerView) (workers worker : ℕ) (parcel : ParcelView) where
  -- the event of an accepted parcel is the worker's own
  pub handed_own : (event : Event) → WasHandedBack layer workers worker parcel (Ok event) → event.worker ≡ worker
  handed_own event (before, after, lawful, is) = is.3

  -- a hand back that ends a worker
  pub handed_ends : (may_stop : Bool) (hand : Hand) (end : End) → IsOfLayer layer parcel → WasHandedBack layer workers worker parcel (Err end) →
      HasEnded may_stop layer workers worker hand end
  handed_ends may_stop hand end of (before, after, lawful, is) = ends_by_book may_stop layer workers worker before parcel hand end of lawful is.0

  pub handed_silently : (may : ℕ → Bool → Bool) (nth : ℕ) (end : End) → WasHandedBack layer workers worker parcel (Err end) → EndsAtOnce may nth nth end
  handed_silently may nth end (before, after, lawful, is) = ends_silently may layer workers worker nth before parcel end is.0
