-- Counts of events, and what the gate may have answered to them.
use Rattle.std.proofs.Common.{◌≡◌, ℕ, zero, suc, ◌+◌, ◌-◌, ◌*◌, ◌^◌, ◌≤◌, min, Bool, true, false, length, inl, inr, refl, sym, ap}
use Rattle.std.proofs.Common.{subst, ◌∙◌, arith}
use Rattle.std.proofs.Math.Nat.{min-eq_left, min-eq_right}
use Rattle.std.proofs.lemmas.Bool.{cases_lt}
use Rattle.std.proofs.lemmas.Nat.{mul-le}
use Rattle.claims.specs.declared.views.Hand.{Hand}
use Rattle.crew.specs.Work.{told, LetsGoOn, MayAnswerEach, WereAccepted, AsksTheGate}
use Rattle.crew.specs.declared.end.End.{End}
use Rattle.crew.specs.declared.end.End.TheVariants.{Drained, Refused, Stopped, Foreign, NoPlace}
use Rattle.crew.specs.inside.Events.{counted_event, IsTold, MayGoOn, EndsAtOnce, DrawsAtLast, GoesOnUntil, IsCutOff, DrawsUntil, HasLeft}

-- ---- one after the other

-- events, and further ones
pub goes_twice : (may : ℕ → Bool → Bool) (nth j k all last after : ℕ) → all ≡ j + k → MayGoOn may nth j last → MayGoOn may last k after → MayGoOn may nth all after
goes_twice may nth j zero all last after sum on same =
    let e : j ≡ all = omega (arith, sum) in
    subst (λ n. MayGoOn may nth n after) e (subst (MayGoOn may nth j) (sym same) on)
goes_twice may nth j (suc k) all last after sum on (mid, more, it) =
    let e : suc (j + k) ≡ all = omega (arith, sum) in
    subst (λ n. MayGoOn may nth n after) e (mid, goes_twice may nth j k (j + k) last mid refl on more, it)

-- events, and further ones of a worker that then ends
pub goes_until : (may : ℕ → Bool → Bool) (nth j k all last after : ℕ) (end : End) → all ≡ j + k → MayGoOn may nth j last → GoesOnUntil may last k after end →
    GoesOnUntil may nth all after end
goes_until may nth j k all last after Stopped sum on (before, mid, is, more, it) =
    (j + before, mid, omega (arith, sum, is), goes_twice may nth j before (j + before) last mid refl on more, it)
goes_until may nth j k all last after Drained sum on more = absurd more
goes_until may nth j k all last after (Refused refusal) sum on more = goes_twice may nth j k all last after sum on more
goes_until may nth j k all last after Foreign sum on more = goes_twice may nth j k all last after sum on more
goes_until may nth j k all last after NoPlace sum on more = absurd more

-- one event more
pub goes_once : (may : ℕ → Bool → Bool) (nth j all last after : ℕ) → all ≡ j + 1 → MayGoOn may nth j last → IsTold may last true after → MayGoOn may nth all after
goes_once may nth j all last after sum on it = goes_twice may nth j 1 all last after sum on (last, refl, it)

-- an end at once, after no event or one
pub ends_at_once : (may : ℕ → Bool → Bool) (nth after : ℕ) (end : End) → EndsAtOnce may nth after end → IsCutOff may 1 nth after end
ends_at_once may nth after Stopped it = record { events = 1; few = omega arith; until = (0, nth, refl, refl, it) }
ends_at_once may nth after Drained it = absurd it
ends_at_once may nth after (Refused refusal) it = record { events = 0; few = omega arith; until = it }
ends_at_once may nth after Foreign it = record { events = 0; few = omega arith; until = it }
ends_at_once may nth after NoPlace it = absurd it

-- events, and then an end
pub cut_off : (may : ℕ → Bool → Bool) (j k most nth last after : ℕ) (end : End) → j + k ≤ most → MayGoOn may nth j last → IsCutOff may k last after end →
    IsCutOff may most nth after end
cut_off may j k most nth last after end few on more = record {
  events = j + more.events;
  few = omega (arith, few, more.few);
  until = goes_until may nth j more.events (j + more.events) last after end refl on more.until;
}

-- ranks are drawn, and then a draw ends a worker that is not drained
pub draws_until : (may : ℕ → Bool → Bool) (hand mid later : Hand) (drawn nth last after : ℕ) (end : End) → ¬ (end ≡ Drained) →
    length mid.numbers ≡ length hand.numbers + drawn → MayGoOn may nth drawn last → DrawsAtLast may mid last later after end →
    DrawsUntil may hand nth later after end
draws_until may hand mid later drawn nth last after Stopped other many on it =
    record { drawn = suc drawn; draws = omega (arith, many, it.0); until = (drawn, last, refl, on, it.1) }
draws_until may hand mid later drawn nth last after Drained other many on it = absurd (other refl)
draws_until may hand mid later drawn nth last after (Refused refusal) other many on it = absurd it
draws_until may hand mid later drawn nth last after Foreign other many on it = absurd it
draws_until may hand mid later drawn nth last after NoPlace other many on it = absurd it

-- ---- what the gate was told

-- one number more
told_more : (n : ℕ) → counted_event (told n) ≡ told (suc n)
told_more n = elim (cases_lt n (2 ^ 64 - 1)) [
  | inl less ↦ (
      let few : n ≤ 2 ^ 64 - 1 = omega (arith, less) in let same : told n ≡ n = min-eq_left few in
      let next : n + 1 ≡ suc n = omega arith in
      ap counted_event same ∙ ap (λ k. min k (2 ^ 64 - 1)) next)
  | inr more ↦ (
      let many : 2 ^ 64 - 1 ≤ n = omega (arith, more) in let most : told n ≡ 2 ^ 64 - 1 = min-eq_right many in
      let beyond : 2 ^ 64 - 1 ≤ suc n = omega (arith, more) in let next : told (suc n) ≡ 2 ^ 64 - 1 = min-eq_right beyond in
      let above : 2 ^ 64 - 1 ≤ 2 ^ 64 - 1 + 1 = omega arith in let top : counted_event (2 ^ 64 - 1) ≡ 2 ^ 64 - 1 = min-eq_right above in
      ap counted_event most ∙ top ∙ sym next)
]

-- the count, and what the gate may have answered
goes_told : (may : ℕ → Bool → Bool) (events after : ℕ) → MayGoOn may 0 events after → (after ≡ told events) × LetsGoOn may events
goes_told may zero after same = (same, λ n some few. absurd (omega (arith, some, few)))
goes_told may (suc events) after (last, on, it) =
    let before = goes_told may events last on in
    let is : after ≡ told (suc events) = it.count ∙ ap counted_event before.0 ∙ told_more events in (
      is,
      λ n some few. elim (cases_lt n (suc events)) [
        | inl less ↦ before.1 n some (omega (arith, less))
        | inr more ↦ (let e : suc events ≡ n = omega (arith, more, few) in subst (λ k. may k true ≡ true) (is ∙ ap told e) it.may)
      ],
    )

-- of a worker that is not drained
answers_until : (may : ℕ → Bool → Bool) (events after : ℕ) (end : End) → GoesOnUntil may 0 events after end → MayAnswerEach may events end
answers_until may events after Stopped (before, last, is, on, it) =
    let told_all = goes_told may before last on in
    let e : after ≡ told events = it.count ∙ ap counted_event told_all.0 ∙ told_more before ∙ ap told (sym is) in
    (before, is, told_all.1, subst (λ k. may k false ≡ true) e it.may)
answers_until may events after Drained it = absurd it
answers_until may events after (Refused refusal) it = (goes_told may events after it).1
answers_until may events after Foreign it = (goes_told may events after it).1
answers_until may events after NoPlace it = absurd it

accepted_until : (may : ℕ → Bool → Bool) (nth events after books drawn accepted : ℕ) (end : End) → GoesOnUntil may nth events after end →
    accepted ≤ drawn * books → WereAccepted books drawn accepted end
accepted_until may nth events after books drawn accepted Stopped it few = few
accepted_until may nth events after books drawn accepted Drained it few = absurd it
accepted_until may nth events after books drawn accepted (Refused refusal) it few = few
accepted_until may nth events after books drawn accepted Foreign it few = few
accepted_until may nth events after books drawn accepted NoPlace it few = few

-- ---- ranks that are handed back to each book

both_times : (a b n : ℕ) → (a + b) * n ≡ a * n + n * b
both_times a b n = omega arith

-- nothing is drawn yet
pub has_none : (may : ℕ → Bool → Bool) (books : ℕ) (hand : Hand) → HasLeft may books 0 hand hand 0
has_none may books hand = record {
  done = 0;
  all = omega arith;
  on = let e : 0 ≡ 0 + 0 + 0 * books = omega arith in subst (λ n. MayGoOn may 0 n 0) e refl;
}

-- ranks are drawn
pub has_drawn : (may : ℕ → Bool → Bool) (books drawn nth after : ℕ) (hand mid later : Hand) → length later.numbers ≡ length mid.numbers + drawn →
    HasLeft may books 0 hand mid nth → MayGoOn may nth drawn after → HasLeft may books drawn hand later after
has_drawn may books drawn nth after hand mid later more has it = record {
  done = has.done;
  all = omega (arith, more, has.all);
  on =
      goes_twice may 0 (has.done + 0 + has.done * books) drawn (has.done + drawn + has.done * books) nth after (omega arith) has.on it;
}

-- those that are left are handed back
pub has_handed : (may : ℕ → Bool → Bool) (books left many nth after : ℕ) (hand later : Hand) → many ≡ books * left →
    HasLeft may books left hand later nth → MayGoOn may nth many after → HasLeft may books 0 hand later after
has_handed may books left many nth after hand later each has it = record {
  done = has.done + left;
  all = omega (arith, has.all);
  on =
      goes_twice may 0 (has.done + left + has.done * books) many (has.done + left + 0 + (has.done + left) * books) nth after
      (omega (arith, each, both_times has.done left books)) has.on it;
}

-- none is left, and the worker is drained
pub asks_drained : (may : ℕ → Bool → Bool) (books after : ℕ) (hand later : Hand) → HasLeft may books 0 hand later after →
    AsksTheGate may books hand later Drained
asks_drained may books after hand later has = record {
  drawn = has.done;
  accepted = has.done * books;
  draws = omega (arith, has.all);
  parcels = refl;
  answers =
      let e : has.done + 0 + has.done * books ≡ has.done + has.done * books = omega arith in
      (goes_told may (has.done + has.done * books) after (subst (λ n. MayGoOn may 0 n after) e has.on)).1;
}

-- the worker goes on, and then ends, and is not drained
pub asks_until : (may : ℕ → Bool → Bool) (books left drawn accepted events nth after : ℕ) (hand mid later : Hand) (end : End) →
    events ≡ drawn + accepted → accepted ≤ books * left → length later.numbers ≡ length mid.numbers + drawn → HasLeft may books left hand mid nth →
    GoesOnUntil may nth events after end → AsksTheGate may books hand later end
asks_until may books left drawn accepted events nth after hand mid later end sum few more has until =
    let ranks = has.done + left + drawn in let parcels = has.done * books + accepted in
    let within : parcels ≤ ranks * books = omega (arith, few, both_times has.done left books, mul-le (has.done + left) books ranks books (omega arith) (omega arith)) in
    let all : GoesOnUntil may 0 (ranks + parcels) after end =
    goes_until may 0 (has.done + left + has.done * books) events (ranks + parcels) nth after end (omega (arith, sum)) has.on until in record {
      drawn = ranks;
      accepted = parcels;
      draws = omega (arith, more, has.all);
      parcels = accepted_until may 0 (ranks + parcels) after books ranks parcels end all within;
      answers = answers_until may (ranks + parcels) after end all;
    }

-- while it draws
pub asks_drawing : (may : ℕ → Bool → Bool) (books nth after : ℕ) (hand mid later : Hand) (end : End) → HasLeft may books 0 hand mid nth →
    DrawsUntil may mid nth later after end → AsksTheGate may books hand later end
asks_drawing may books nth after hand mid later end has it =
    asks_until may books 0 it.drawn 0 it.drawn nth after hand mid later end (omega arith) (omega arith) it.draws has it.until

-- while it hands back
pub asks_handing : (may : ℕ → Bool → Bool) (books left many nth after : ℕ) (hand later : Hand) (end : End) → many ≡ books * left →
    HasLeft may books left hand later nth → IsCutOff may many nth after end → AsksTheGate may books hand later end
asks_handing may books left many nth after hand later end each has it =
    asks_until may books left 0 it.events it.events nth after hand later later end (omega arith) (omega (arith, it.few, each)) (omega arith) has it.until

stopped_undrained : ¬ (Stopped ≡ Drained)
stopped_undrained same = cc

-- at its first draw
pub asks_drawn : (may : ℕ → Bool → Bool) (books after : ℕ) (hand later : Hand) (end : End) → DrawsAtLast may hand 0 later after end →
    AsksTheGate may books hand later end
asks_drawn may books after hand later Drained it =
    let same = ap length it.0 in
    asks_drained may books after hand later (has_drawn may books 0 0 after hand hand later (omega (arith, same)) (has_none may books hand) it.1)
asks_drawn may books after hand later Stopped it =
    asks_drawing may books 0 after hand hand later Stopped (has_none may books hand)
    (draws_until may hand hand later 0 0 0 after Stopped stopped_undrained (omega arith) refl it)
asks_drawn may books after hand later (Refused refusal) it = absurd it
asks_drawn may books after hand later Foreign it = absurd it
asks_drawn may books after hand later NoPlace it = absurd it
