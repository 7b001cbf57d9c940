-- An enrolment keeps the rule of a ledger.
use Rattle.std.proofs.Common.{◌≡◌, ◌≢◌, ℕ, zero, suc, ◌+◌, ◌-◌, ◌<◌, ◌≤◌, ⊎_elim, true≢false, List, [], ◌∷◌, get_or, drop, set, refl, sym, ap, ◌∙◌, subst}
use Rattle.std.proofs.Common.{arith}
use Rattle.std.specs.Prelude.{sum, min, nat_lt, IsNone, Option, Some, None}
use mathlib.Core.Option.{some, none}
use lib.ListN.{get_elem?}
use Rattle.atomic_table.specs.Table.{keeps, step, Allows}
use Rattle.std.proofs.lemmas.Bool.{eq-eqb, ne_eqb, cases_eq}
use Rattle.std.proofs.lemmas.List.{length-set, length-drop, get_or-set_same, get_or-set_other, set-get_or}
use Rattle.std.proofs.lemmas.List.Sums.{sum_by-set}
use Rattle.claims.specs.declared.ledger.TheConstants.{PLACES}
use Rattle.claims.specs.declared.views.Hand.{Hand}
use Rattle.claims.specs.declared.views.View.{View}
use Rattle.claims.specs.Hands.{one_if, is_place, with_place, with_taken}
use Rattle.claims.specs.inside.Views.{view_of, first_hand}
use Rattle.claims.specs.Rule.{over_hands, number_count, place_count, placed_count, spent_count, FitsLedger, IsDrawnOnce, holds}
use Rattle.claims.specs.inside.Plays.{Sat, sat, after_swap, enrols}
use Rattle.claims.proofs.Seats.{get_or_behind, seat_is}
use Rattle.claims.proofs.Totals.{over_set}
use Rattle.claims.proofs.Fitting.{fits_one, fit_of, fits_set, fits_later, place_fits, taken_fits}

no_place : (o : Option ℕ) (q : ℕ) → IsNone o → is_place q o ≡ 0
no_place (Some p) q e = absurd (true≢false e)
no_place None q e = refl

drop_set : (words : List ℕ) (p a : ℕ) → drop 1 (set words (suc p) a) ≡ set (drop 1 words) p a
drop_set [] p a = refl
drop_set (w ∷ ws) p a = refl

module _ (size : ℕ) (words : List ℕ) (views : List View) (i p : ℕ) (h : Hand) (r : IsDrawnOnce size words views) (at : get_elem? views i ≡
    some (view_of size (h ∷ []))) where
  fit : FitsLedger size words h
  fit = fit_of size words size h [] (r.views_fit i (view_of size (h ∷ [])) at)

  over_one : (f : Hand → ℕ) (k : Hand) → over_hands f (set views i (view_of size (k ∷ []))) + f h ≡ over_hands f views + f k
  over_one f k = let set = over_set f views i (view_of size (h ∷ [])) (view_of size (k ∷ [])) at in omega arith

  abbrev after : List ℕ
  after = set words (suc p) 1

  -- the place was taken
  sees_keep : get_or words (suc p) 0 ≡ 1 → IsDrawnOnce size after (set views i (view_of size (with_taken p h ∷ [])))
  sees_keep taken =
      let k = with_taken p h in
      let same : after ≡ words = ap (set words (suc p)) (sym taken) ∙ set-get_or words (suc p) 0 in
      subst (λ (ws : List ℕ). IsDrawnOnce size ws (set views i (view_of size (k ∷ [])))) (sym same) record {
        ranges = r.ranges;
        numbers = λ x. let one = over_one (number_count x) k in let all = r.numbers x in omega arith;
        places = λ q. let one = over_one (place_count q) k in let all = r.places q in omega arith;
        single = r.single;
        seats = let one = over_one placed_count k in let all = r.seats in omega arith;
        excess = let one = over_one spent_count k in let all = r.excess in omega arith;
        views_fit = fits_set size words views i (view_of size (k ∷ [])) r.views_fit (fits_one size words k (taken_fits size words h p taken fit));
      }

  -- the place was free
  module _ (near : p < PLACES) (free : get_or words (suc p) 0 ≡ 0) (bare : IsNone h.place) where
    abbrev k : Hand
    k = with_place p h

    first : get_or after 0 0 ≡ get_or words 0 0
    first = get_or-set_other words (suc p) 0 1 0 (λ z. omega arith)

    here : get_or after (suc p) 0 ≡ 1
    here = let wide = r.ranges.0 in get_or-set_same words (suc p) 1 0 (omega arith)

    other : (q : ℕ) → q ≢ p → get_or after (suc q) 0 ≡ get_or words (suc q) 0
    other q ne = get_or-set_other words (suc p) (suc q) 1 0 (λ z. ne (omega arith))

    stays : (q : ℕ) → get_or words (suc q) 0 ≡ 1 → get_or after (suc q) 0 ≡ 1
    stays q is = ⊎_elim (λ e. subst (λ (n : ℕ). get_or after (suc n) 0 ≡ 1) (sym e) here) (λ ne. other q ne ∙ is) (cases_eq q p)

    places_keep : (q : ℕ) → over_hands (place_count q) (set views i (view_of size (k ∷ []))) ≡ get_or after (suc q) 0
    places_keep q =
        let one = over_one (place_count q) k in
        let none : place_count q h ≡ 0 = no_place h.place q bare in
        let all = r.places q in
        ⊎_elim
        (λ e.
        let got : place_count q k ≡ 1 = ap one_if (eq-eqb p q (sym e)) in
        let was : get_or words (suc q) 0 ≡ 0 = ap (λ (n : ℕ). get_or words (suc n) 0) e ∙ free in
        let is : get_or after (suc q) 0 ≡ 1 = ap (λ (n : ℕ). get_or after (suc n) 0) e ∙ here in
        omega arith)
        (λ ne.
        let got : place_count q k ≡ 0 = ap one_if (ne_eqb p q (λ e. ne (sym e))) in
        let is = other q ne in
        omega arith)
        (cases_eq q p)

    single_keep : (q : ℕ) → get_or after (suc q) 0 ≤ 1
    single_keep q = ⊎_elim
        (λ e. let is : get_or after (suc q) 0 ≡ 1 = ap (λ (n : ℕ). get_or after (suc n) 0) e ∙ here in omega arith)
        (λ ne. let is = other q ne in let all = r.single q in omega arith)
        (cases_eq q p)

    seats_keep : over_hands placed_count (set views i (view_of size (k ∷ []))) ≡ sum (drop 1 after)
    seats_keep =
        let one = over_one placed_count k in
        let none : placed_count h ≡ 0 = ap one_if bare in
        let all = r.seats in
        let wide = r.ranges.0 in
        let long = length-drop 1 words in
        let was : get_or (drop 1 words) p 0 ≡ 0 = get_or_behind words p ∙ free in
        let more = sum_by-set (λ (n : ℕ). n) (drop 1 words) p 1 0 (omega arith) in
        let same = ap sum (drop_set words p 1) in
        omega arith

    takes_keep : IsDrawnOnce size after (set views i (view_of size (k ∷ [])))
    takes_keep = record {
      ranges = (length-set words (suc p) 1 ∙ r.ranges.0, r.ranges.1);
      numbers = λ x.
          let one = over_one (number_count x) k in
          let all = r.numbers x in
          let now : over_hands (number_count x) (set views i (view_of size (k ∷ []))) ≡ one_if (nat_lt x (min (get_or words 0 0) size)) = omega arith in
          now ∙ ap (λ (n : ℕ). one_if (nat_lt x (min n size))) (sym first);
      places = places_keep;
      single = single_keep;
      seats = seats_keep;
      excess = let f = first in let one = over_one spent_count k in let all = r.excess in omega arith;
      views_fit = fits_set size after views i (view_of size (k ∷ [])) (fits_later size words after (let f = first in omega arith) stays views r.views_fit)
          (fits_one size after k (place_fits size words after (let f = first in omega arith) stays h p fit));
    }

  swap_keeps : (found : ℕ) → get_or words (suc p) 0 ≡ found → p < PLACES → IsNone h.place →
      IsDrawnOnce size after (set views i (view_of size (after_swap p found h ∷ [])))
  swap_keeps zero is near bare = takes_keep near is bare
  swap_keeps (suc n) is near bare = let most = r.single p in sees_keep (omega arith)

swaps_at : (slots id size p : ℕ) (h : Hand) → p < PLACES → IsNone h.place →
    Allows (holds size) slots id (sat size h) (suc p) (λ _. 1) (enrols (step slots (suc p) 1 0 none) (sat size h))
swaps_at slots id size p h near bare s r long at small =
    let found : ℕ = get_or s.words (suc p) 0 in
    let place : p ≡ suc p - 1 = omega arith in (
      view_of size (after_swap p found h ∷ []),
      keeps,
      tt,
      swap_keeps size s.words s.views id p h r at found refl near bare,
      ap (λ (q : ℕ). sat size (after_swap q found h)) place,
    )

-- the same of a seat with one hand, at the word of the place
pub swaps_seat : (slots id size p word : ℕ) (me : Sat) → word ≡ suc p → me ≡ sat me.0.len (first_hand me.0.hands) → me.0.len ≡ size → p < PLACES →
    IsNone (first_hand me.0.hands).place
    → Allows (holds size) slots id me word (λ _. 1) (enrols (step slots word 1 0 none) me)
swaps_seat slots id size p word me is seated len near bare =
    subst (λ (w : ℕ). Allows (holds size) slots id me w (λ _. 1) (enrols (step slots w 1 0 none) me)) (sym is)
    (subst (λ (m : Sat). Allows (holds size) slots id m (suc p) (λ _. 1) (enrols (step slots (suc p) 1 0 none) m)) (sym (seat_is size me seated len))
    (swaps_at slots id size p (first_hand me.0.hands) near bare))
