-- A draw keeps the rule of a ledger.
use Rattle.std.proofs.Common.{◌≡◌, ℕ, suc, ◌+◌, ◌%◌, ◌^◌, ◌<◌, ◌≤◌, Bool, true, false, true≢false, List, [], ◌∷◌, length, get_or, drop, set, refl, sym, ap, ◌∙◌}
use Rattle.std.proofs.Common.{subst, arith}
use Rattle.std.specs.Prelude.{All, sum, min, nat_lt, is_some, IsSome, IsNone, if◌then◌else◌, Option, Some, None, ◌==◌}
use mathlib.Core.Option.{some, none}
use lib.ListN.{get_elem?}
use Rattle.atomic_table.specs.Table.{keeps, step, Allows}
use Rattle.std.proofs.lemmas.Bool.{ltb-true, ltb-false}
use Rattle.std.proofs.lemmas.List.{length-set, length-drop, get_or-set_same, get_or-set_other, drop-set-lt}
use Rattle.std.proofs.lemmas.List.Sums.{sum_by-cons}
use Rattle.std.proofs.lemmas.List.Elements.{All-weaker}
use Rattle.claims.specs.declared.ledger.TheConstants.{PLACES}
use Rattle.claims.specs.declared.views.Hand.{Hand}
use Rattle.claims.specs.declared.views.View.{View}
use Rattle.claims.specs.Hands.{one_if, times, with_number, spent_out}
use Rattle.claims.specs.inside.Views.{view_of, first_hand}
use Rattle.claims.specs.Rule.{over_hands, number_count, place_count, placed_count, spent_count, FitsLedger, IsDrawnOnce, holds}
use Rattle.claims.specs.inside.Plays.{Sat, sat, after_draw, draws}
use Rattle.claims.proofs.Seats.{get_or_behind, seat_is}
use Rattle.claims.proofs.Counts.{times_push, below_more, below_same, all_below}
use Rattle.claims.proofs.Totals.{over_set, over_part, over_le}
use Rattle.claims.proofs.Fitting.{InView, AllFit, fits_one, fit_of, fits_set, fits_later, number_fits, spent_fits}

-- ---- the next number is small

sum_le : (ns : List ℕ) → ((p : ℕ) → get_or ns p 0 ≤ 1) → sum ns ≤ length ns
sum_le [] all = omega arith
sum_le (n ∷ ns) all =
    let here : n ≤ 1 = all 0 in
    let rest = sum_le ns (λ p. all (suc p)) in
    let cons = sum_by-cons (λ (m : ℕ). m) n ns in
    omega arith

spent_le : (o : Option ℕ) (b : Bool) → (IsNone o → b ≡ false) → one_if b ≤ one_if (is_some o)
spent_le (Some p) true bare = omega arith
spent_le (Some p) false bare = omega arith
spent_le None true bare = absurd (true≢false (bare refl))
spent_le None false bare = omega arith

next_le : (size : ℕ) (words : List ℕ) (views : List View) → IsDrawnOnce size words views → get_or words 0 0 ≤ size + PLACES
next_le size words views r =
    let out = over_le spent_count placed_count (FitsLedger size words) (λ h fit. spent_le h.place h.spent (λ e. (fit.bare e).1)) views
    (λ i v at. All-weaker (InView size words v.len) (FitsLedger size words) (λ h t. t.1) v.hands (r.views_fit i v at)) in
    let ones = sum_le (drop 1 words) (λ p. subst (λ (n : ℕ). n ≤ 1) (sym (get_or_behind words p)) (r.single p)) in
    let long = length-drop 1 words in
    let wide = r.ranges.0 in
    let most = r.excess in
    let seats = r.seats in
    omega arith

-- ---- the step

by_test : (P : Hand → Type 0) (b : Bool) (x y : Hand) → (b ≡ true → P x) → (b ≡ false → P y) → P (if b then x else y)
by_test P true x y p q = p refl
by_test P false x y p q = q refl

module _ (size : ℕ) (words : List ℕ) (views : List View) (i : ℕ) (h : Hand) (r : IsDrawnOnce size words views) (at : get_elem? views i ≡
    some (view_of size (h ∷ []))) where
  abbrev pub next : ℕ
  next = get_or words 0 0

  fit : FitsLedger size words h
  fit = fit_of size words size h [] (r.views_fit i (view_of size (h ∷ [])) at)

  over_one : (f : Hand → ℕ) (k : Hand) → over_hands f (set views i (view_of size (k ∷ []))) + f h ≡ over_hands f views + f k
  over_one f k = let set = over_set f views i (view_of size (h ∷ [])) (view_of size (k ∷ [])) at in omega arith

  pub above : All (λ x. x < next) h.numbers
  above = all_below next size h.numbers (λ x.
      let part : times x h.numbers ≤ over_hands (number_count x) views = let whole = over_part (number_count x) views i (view_of size (h ∷ [])) at in
      omega arith in
      let all = r.numbers x in
      omega arith)

  module _ (m : ℕ) (e : m ≡ next + 1) (has : IsSome h.place) where
    abbrev after : List ℕ
    after = set words 0 m

    first : get_or after 0 0 ≡ next + 1
    first = let wide = r.ranges.0 in get_or-set_same words 0 m 0 (omega arith) ∙ e

    other : (p : ℕ) → get_or after (suc p) 0 ≡ get_or words (suc p) 0
    other p = get_or-set_other words 0 (suc p) m 0 (λ z. omega arith)

    others : sum (drop 1 after) ≡ sum (drop 1 words)
    others = ap sum (drop-set-lt 1 words 0 m (omega arith))

    more : next ≤ get_or after 0 0
    more = let f = first in omega arith

    stays : (p : ℕ) → get_or words (suc p) 0 ≡ 1 → get_or after (suc p) 0 ≡ 1
    stays p is = other p ∙ is

    all_fit : AllFit size after views
    all_fit = fits_later size words after more stays views r.views_fit

    gives_keep : next < size → IsDrawnOnce size after (set views i (view_of size (with_number next h ∷ [])))
    gives_keep lt =
        let k = with_number next h in record {
          ranges = (length-set words 0 m ∙ r.ranges.0, r.ranges.1);
          numbers = λ x.
              let one = over_one (number_count x) k in
              let pushed : number_count x k ≡ number_count x h + one_if (next == x) = times_push x h.numbers next in
              let below = below_more x next size lt in
              let all = r.numbers x in
              let now : over_hands (number_count x) (set views i (view_of size (k ∷ []))) ≡ one_if (nat_lt x (min (next + 1) size)) = omega arith in
              now ∙ ap (λ (n : ℕ). one_if (nat_lt x (min n size))) (sym first);
          places = λ p. let one = over_one (place_count p) k in let all = r.places p in let same = other p in omega arith;
          single = λ p. let same = other p in let all = r.single p in omega arith;
          seats = let one = over_one placed_count k in let all = r.seats in let same = others in omega arith;
          excess = let f = first in omega arith;
          views_fit = fits_set size after views i (view_of size (k ∷ [])) all_fit
              (fits_one size after k (number_fits size words after more stays h next has above fit));
        }

    ends_keep : size ≤ next → h.spent ≡ false → IsDrawnOnce size after (set views i (view_of size (spent_out h ∷ [])))
    ends_keep reached unspent =
        let k = spent_out h in record {
          ranges = (length-set words 0 m ∙ r.ranges.0, r.ranges.1);
          numbers = λ x.
              let one = over_one (number_count x) k in
              let below = below_same x next size reached in
              let all = r.numbers x in
              let now : over_hands (number_count x) (set views i (view_of size (k ∷ []))) ≡ one_if (nat_lt x (min (next + 1) size)) = omega arith in
              now ∙ ap (λ (n : ℕ). one_if (nat_lt x (min n size))) (sym first);
          places = λ p. let one = over_one (place_count p) k in let all = r.places p in let same = other p in omega arith;
          single = λ p. let same = other p in let all = r.single p in omega arith;
          seats = let one = over_one placed_count k in let all = r.seats in let same = others in omega arith;
          excess =
              let f = first in
              let one = over_one spent_count k in
              let none : spent_count h ≡ 0 = ap one_if unspent in
              let all = r.excess in
              omega arith;
          views_fit = fits_set size after views i (view_of size (k ∷ [])) all_fit
              (fits_one size after k (spent_fits size words after more stays h has (let f = first in omega arith) fit));
        }

    draw_keeps : h.spent ≡ false → IsDrawnOnce size after (set views i (view_of size (after_draw size next h ∷ [])))
    draw_keeps unspent = by_test (λ k. IsDrawnOnce size after (set views i (view_of size (k ∷ [])))) (nat_lt next size) (with_number next h) (spent_out h)
        (λ is. gives_keep (ltb-true next size is)) (λ is. ends_keep (ltb-false next size is) unspent)

pub draws_allow : (slots id size : ℕ) (h : Hand) → IsSome h.place → h.spent ≡ false →
    Allows (holds size) slots id (sat size h) 0 (λ n. (n + 1) % 2 ^ 64) (draws (step slots 0 1 0 none) (sat size h))
draws_allow slots id size h has unspent s r long at small =
    let next : ℕ = get_or s.words 0 0 in
    let most = next_le size s.words s.views r in
    let short = r.ranges.1 in
    let m : (next + 1) % 2 ^ 64 ≡ next + 1 = omega arith in (
      view_of size (after_draw size next h ∷ []),
      keeps,
      tt,
      draw_keeps size s.words s.views id h r at ((next + 1) % 2 ^ 64) m has unspent,
      (refl, above size s.words s.views id h r at),
    )

-- the same of a seat with one hand
pub draws_seat : (slots id size : ℕ) (me : Sat) → me ≡ sat me.0.len (first_hand me.0.hands) → me.0.len ≡ size → IsSome (first_hand me.0.hands).place →
    (first_hand me.0.hands).spent ≡ false
    → Allows (holds size) slots id me 0 (λ n. (n + 1) % 2 ^ 64) (draws (step slots 0 1 0 none) me)
draws_seat slots id size me seated len has unspent =
    subst (λ (m : Sat). Allows (holds size) slots id m 0 (λ n. (n + 1) % 2 ^ 64) (draws (step slots 0 1 0 none) m))
    (sym (seat_is size me seated len)) (draws_allow slots id size (first_hand me.0.hands) has unspent)
