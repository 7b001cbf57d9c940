-- How the count of a worker's events goes on, and what the gate may answer to them.
use Rattle.std.specs.Prelude.{◌≡◌, ℕ, zero, suc, ◌+◌, ◌-◌, ◌*◌, ◌^◌, ◌≤◌, min, Bool, true, false, length}
use Rattle.claims.specs.declared.views.Hand.{Hand}
use Rattle.crew.specs.declared.end.End.{End}
use Rattle.crew.specs.declared.end.End.TheVariants.{Drained, Refused, Stopped, Foreign, NoPlace}

-- the count after one more event; the greatest number stays
abbrev pub counted_event : ℕ → ℕ
counted_event nth = min (nth + 1) (2 ^ 64 - 1)

-- one more event, for which the gate was called, and to which it may give this answer
pub record IsTold (may_answer : ℕ → Bool → Bool) (nth : ℕ) (answer : Bool) (after : ℕ) : Type 0 where
  pub count : after ≡ counted_event nth
  pub may : may_answer after answer ≡ true

-- this number of events more, and after each the gate let the worker go on
abbrev pub MayGoOn : (ℕ → Bool → Bool) → ℕ → ℕ → ℕ → Type 0
MayGoOn may_answer nth zero after = after ≡ nth
MayGoOn may_answer nth (suc events) after =
    (last : ℕ) × MayGoOn may_answer nth events last × IsTold may_answer last true after

-- how a worker that is not drained ends at once: the gate does not let it go on after one more event, or a book ends
-- it with no event
abbrev pub EndsAtOnce : (ℕ → Bool → Bool) → ℕ → ℕ → End → Type 0
EndsAtOnce may_answer nth after Stopped = IsTold may_answer nth false after
EndsAtOnce may_answer nth after (Refused refusal) = after ≡ nth
EndsAtOnce may_answer nth after Foreign = after ≡ nth
EndsAtOnce may_answer nth after Drained = ⊥
EndsAtOnce may_answer nth after NoPlace = ⊥

-- how a draw and then the gate end a worker: the gate does not let it go on after one more rank, or it is drained,
-- with no event
abbrev pub DrawsAtLast : (ℕ → Bool → Bool) → Hand → ℕ → Hand → ℕ → End → Type 0
DrawsAtLast may_answer hand nth later after Stopped =
    (length later.numbers ≡ length hand.numbers + 1) × IsTold may_answer nth false after
DrawsAtLast may_answer hand nth later after Drained = (later.numbers ≡ hand.numbers) × (after ≡ nth)
DrawsAtLast may_answer hand nth later after (Refused refusal) = ⊥
DrawsAtLast may_answer hand nth later after Foreign = ⊥
DrawsAtLast may_answer hand nth later after NoPlace = ⊥

-- this number of events more of a worker that then ended, and was not drained: after each the gate let it go on,
-- except after the last one of a stopped worker
abbrev pub GoesOnUntil : (ℕ → Bool → Bool) → ℕ → ℕ → ℕ → End → Type 0
GoesOnUntil may_answer nth events after Stopped =
    (before : ℕ) × (last : ℕ) × (events ≡ suc before) × MayGoOn may_answer nth before last ×
    IsTold may_answer last false after
GoesOnUntil may_answer nth events after (Refused refusal) = MayGoOn may_answer nth events after
GoesOnUntil may_answer nth events after Foreign = MayGoOn may_answer nth events after
GoesOnUntil may_answer nth events after Drained = ⊥
GoesOnUntil may_answer nth events after NoPlace = ⊥

-- at most this number of events, of a worker that then ended, and was not drained
pub record IsCutOff (may_answer : ℕ → Bool → Bool) (most nth after : ℕ) (end : End) : Type 0 where
  pub events : ℕ
  pub few : events ≤ most
  pub until : GoesOnUntil may_answer nth events after end

-- a worker drew ranks and then ended, but not as drained: it had one event for each rank that `later` has beyond `hand`
pub record DrawsUntil (may_answer : ℕ → Bool → Bool) (hand : Hand) (nth : ℕ) (later : Hand) (after : ℕ) (end : End) :
    Type 0 where
  pub drawn : ℕ
  pub draws : length later.numbers ≡ length hand.numbers + drawn
  pub until : GoesOnUntil may_answer nth drawn after end

-- since `hand` a worker has drawn `done` ranks, which it has handed back to each book, and `left` ranks, which it has
-- not; its events are the draws of all, and one for each of the `done` ranks and each book
pub record HasLeft (may_answer : ℕ → Bool → Bool) (books left : ℕ) (hand later : Hand) (after : ℕ) : Type 0 where
  pub done : ℕ
  pub all : length later.numbers ≡ length hand.numbers + done + left
  pub on : MayGoOn may_answer 0 (done + left + done * books) after
