-- A parcel that a worker hands back to a book under the book's lock.
use Rattle.std.specs.Prelude.{◌≡◌, ℕ, Result, Ok, Err}
use Rattle.layers.specs.LayerView.{LayerView}
use Rattle.successors.specs.ParcelView.{ParcelView}
use Rattle.layers.specs.BookView.{BookView, IsLawfulBook}
use Rattle.layers.specs.Books.{MayEnter, with_parcel}
use Rattle.crew.specs.Work.{IsOwn, HandEnds, after_end}
use Rattle.crew.specs.declared.end.End.{End}
use Rattle.crew.specs.declared.event.Event.{Event}

-- the answer to a parcel, with the book before and after it: the worker's own book accepts the parcel, and the event
-- has this worker and the parcel's rank; or the answer ends the worker
abbrev pub HandsBack : LayerView → ℕ → ℕ → ParcelView → BookView → Result Event End → BookView → Type 0
HandsBack layer workers worker parcel before (Ok event) after =
    IsOwn layer workers worker before × MayEnter before parcel × (after ≡ with_parcel before worker parcel)
    × (event.worker ≡ worker) × (event.rank ≡ parcel.rank)
HandsBack layer workers worker parcel before (Err end) after =
    HandEnds layer workers worker before parcel end × (after ≡ after_end before end)

-- some lawful book gave this answer to the parcel
abbrev pub WasHandedBack : LayerView → ℕ → ℕ → ParcelView → Result Event End → Type 0
WasHandedBack layer workers worker parcel result =
    (before : BookView) × (after : BookView) × IsLawfulBook before
    × HandsBack layer workers worker parcel before result after
