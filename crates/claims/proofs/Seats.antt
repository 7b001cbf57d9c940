-- Views that are joined, split or compared keep the rule of a ledger.
use Rattle.std.proofs.Common.{◌≡◌, ℕ, suc, ◌+◌, ◌≤◌, ⊎_elim, Bool, true, false, List, [], ◌∷◌, ◌++◌, get_or, drop, set, refl, sym, ap, ◌∙◌, subst, arith}
use Rattle.std.specs.Prelude.{All, sum_by, min, nat_lt}
use mathlib.Core.Option.{some, none}
use lib.ListN.{get_elem?}
use Rattle.atomic_table.specs.Table.{keeps, step, Allows, Splits, Joins}
use Rattle.atomic_table.proofs.Lists.{at_set, set_again}
use Rattle.std.proofs.lemmas.List.{set-get_or}
use Rattle.std.proofs.lemmas.List.Sums.{sum_by-append}
use Rattle.std.proofs.lemmas.List.Elements.{All-append, All-tail}
use Rattle.claims.specs.declared.views.Hand.{Hand}
use Rattle.claims.specs.declared.views.View.{View}
use Rattle.claims.specs.Hands.{DrawerView, LedgerView, empty_hand, one_if, AreApart}
use Rattle.claims.specs.inside.Views.{first_hand, view_of, beside, joined, spent_view, first_part, other_part}
use Rattle.claims.specs.Rule.{over_hands, number_count, place_count, placed_count, spent_count, IsDrawnOnce, holds}
use Rattle.claims.specs.inside.Plays.{Sat, sat, compares}
use Rattle.claims.specs.inside.Fields.{IsSoundLedger, ledger_view, drawer_view}
use Rattle.claims.specs.declared.drawer.Drawer.TheInside.{Inside as DrawerInside}
use Rattle.claims.specs.declared.ledger.Ledger.TheInside.{Inside as LedgerInside}
use Rattle.claims.proofs.Totals.{over_set, over_push, over_part}
use Rattle.claims.proofs.Fitting.{InView, Fits, AllFit, fits_one, fit_of, fits_none, fits_set, fits_push, fits_empty}

-- a seat within a meeting
abbrev pub met : ℕ → Hand → Hand → Sat
met size h k = (view_of size (h ∷ k ∷ []), [])

-- the words of the places
pub get_or_behind : (words : List ℕ) (p : ℕ) → get_or (drop 1 words) p 0 ≡ get_or words (suc p) 0
get_or_behind [] p = refl
get_or_behind (w ∷ ws) p = refl

-- the length of a drawer's view is what the table knows
pub agrees : (a : DrawerInside) (b : LedgerInside) (d : DrawerView) (l : LedgerView) → drawer_view a ≡ d → ledger_view b ≡ l → d.ledger ≡ l → IsSoundLedger b →
    a.seat.me.0.len ≡ b.table.shared.key
agrees a b d l is_d is_l same sound = ap (λ (x : DrawerView). x.ledger.len) is_d ∙
    (ap (λ (x : LedgerView). x.len) same ∙ (sym (ap (λ (x : LedgerView). x.len) is_l) ∙ sym sound.1))

pub seat_is : (size : ℕ) (me : Sat) → me ≡ sat me.0.len (first_hand me.0.hands) → me.0.len ≡ size → me ≡ sat size (first_hand me.0.hands)
seat_is size me seated len = seated ∙ ap (λ (n : ℕ). sat n (first_hand me.0.hands)) len

-- two seats with one hand each, joined
pub met_is : (size : ℕ) (v w : Sat) → v ≡ sat v.0.len (first_hand v.0.hands) → w ≡ sat w.0.len (first_hand w.0.hands) → v.0.len ≡ size
    → (joined v.0 w.0, v.1) ≡ met size (first_hand v.0.hands) (first_hand w.0.hands)
met_is size v w seated other len = let a = seat_is size v seated len in λ i. (joined (a i).0 (other i).0, (a i).1)

one_if_le : (b : Bool) → one_if b ≤ 1
one_if_le true = omega arith
one_if_le false = omega arith

-- the sum over one hand, and over two
pub sum_one : (f : Hand → ℕ) (h : Hand) → sum_by f (h ∷ []) ≡ f h
sum_one f h = omega arith

sum_two : (f : Hand → ℕ) (h k : Hand) → sum_by f (h ∷ k ∷ []) ≡ f h + f k
sum_two f h k = omega arith

-- hands that are dealt to the views in another way, and empty ones beside them, keep the rule
pub dealt : (size : ℕ) (words : List ℕ) (views after : List View) → IsDrawnOnce size words views
    → ((f : Hand → ℕ) → f empty_hand ≡ 0 → over_hands f after ≡ over_hands f views) → AllFit size words after → IsDrawnOnce size words after
dealt size words views after r same fit = record {
  ranges = r.ranges;
  numbers = λ x. same (number_count x) refl ∙ r.numbers x;
  places = λ p. same (place_count p) refl ∙ r.places p;
  single = r.single;
  seats = same placed_count refl ∙ r.seats;
  excess = let out = same spent_count refl in let most = r.excess in omega arith;
  views_fit = fit;
}

module _ (size : ℕ) (words : List ℕ) (views : List View) (i : ℕ) (r : IsDrawnOnce size words views) where
  -- a new view with an empty hand
  beside_keeps : (v : View) → v.len ≡ size → get_elem? views i ≡ some v → IsDrawnOnce size words (set views i v ++ beside v ∷ [])
  beside_keeps v len at =
      let same : set views i v ≡ views = set_again views i v at in
      let new : Fits size words (beside v) =
      subst (λ (n : ℕ). Fits size words (view_of n (empty_hand ∷ []))) (sym len) (fits_one size words empty_hand (fits_empty size words)) in
      subst (λ (vs : List View). IsDrawnOnce size words (vs ++ beside v ∷ [])) (sym same)
      (dealt size words views (views ++ beside v ∷ []) r (λ f none. let pushed = over_push f views (beside v) in let one = sum_one f empty_hand in omega arith)
      (fits_push size words views (beside v) r.views_fit new))

  -- two views are joined in the first
  joined_keeps : (j : ℕ) (v w : View) → v.len ≡ w.len → get_elem? views i ≡ some v → ¬ (j ≡ i) → get_elem? (set views i (joined v w)) j ≡ some w
      → IsDrawnOnce size words (set (set views i (joined v w)) j spent_view)
  joined_keeps j v w lens at apart at' =
      let both = joined v w in
      let there : get_elem? views j ≡ some w = ⊎_elim (λ t. absurd (apart t.0)) (λ t. t.1) (at_set views i j both w at') in
      let left : All (InView size words v.len) v.hands = r.views_fit i v at in
      let right : All (InView size words v.len) w.hands = subst (λ (n : ℕ). All (InView size words n) w.hands) (sym lens) (r.views_fit j w there) in
      let all = fits_set size words views i both r.views_fit (All-append (InView size words v.len) v.hands w.hands left right) in
      dealt size words views (set (set views i both) j spent_view) r
      (λ f none.
      let one = over_set f views i v both at in
      let two = over_set f (set views i both) j w spent_view at' in
      let sum = sum_by-append f v.hands w.hands in
      omega arith)
      (fits_set size words (set views i both) j spent_view all (fits_none size words 0))

  module _ (h k : Hand) (at : get_elem? views i ≡ some (view_of size (h ∷ k ∷ []))) where
    abbrev v : View
    v = view_of size (h ∷ k ∷ [])

    -- a view with two hands is split
    parts_keep : IsDrawnOnce size words (set views i (first_part v) ++ other_part v ∷ [])
    parts_keep =
        let fit = r.views_fit i v at in
        let first = fits_one size words h (fit_of size words size h (k ∷ []) fit) in
        let other = All-tail (InView size words size) h (k ∷ []) fit in
        dealt size words views (set views i (first_part v) ++ other_part v ∷ []) r
        (λ f none.
        let one = over_set f views i v (first_part v) at in
        let two = over_push f (set views i (first_part v)) (other_part v) in
        let a = sum_two f h k in
        let b = sum_one f h in
        let c = sum_one f k in
        omega arith)
        (fits_push size words (set views i (first_part v)) (other_part v) (fits_set size words views i (first_part v) r.views_fit first) other)

    -- its hands are apart
    hands_apart : AreApart h k
    hands_apart = (
      (λ x.
          let part = over_part (number_count x) views i v at in
          let sum = sum_two (number_count x) h k in
          let all = r.numbers x in
          let most = one_if_le (nat_lt x (min (get_or words 0 0) size)) in
          omega arith),
      (λ p.
          let part = over_part (place_count p) views i v at in
          let sum = sum_two (place_count p) h k in
          let all = r.places p in
          let most = r.single p in
          omega arith),
    )

-- ---- the steps

pub splits_newcomer : (size id : ℕ) (me : Sat) → me.0.len ≡ size → Splits (holds size) id me.0 me.0 (beside me.0)
splits_newcomer size id me len s r at = beside_keeps size s.words s.views id r me.0 len at

pub joins_meeting : (size id other : ℕ) (v w : View) → v.len ≡ w.len → Joins (holds size) id v other w (joined v w) spent_view
joins_meeting size id other v w lens s r at apart at' = joined_keeps size s.words s.views id r other v w lens at apart at'

splits_met : (size id : ℕ) (h k : Hand) → Splits (holds size) id (met size h k).0 (first_part (met size h k).0) (other_part (met size h k).0)
splits_met size id h k s r at = parts_keep size s.words s.views id r h k at

pub splits_meeting : (size id : ℕ) (me : Sat) (h k : Hand) → me ≡ met size h k → Splits (holds size) id me.0 (first_part me.0) (other_part me.0)
splits_meeting size id me h k is = subst (λ (m : Sat). Splits (holds size) id m.0 (first_part m.0) (other_part m.0)) (sym is) (splits_met size id h k)

loads_met : (slots size id : ℕ) (h k : Hand) → Allows (holds size) slots id (met size h k) 0 (λ n. n) (compares (step slots 0 0 0 none) (met size h k))
loads_met slots size id h k s r long at small =
    let v : View = view_of size (h ∷ k ∷ []) in
    let same_words = sym (set-get_or s.words 0 0) in
    let same_views = sym (set_again s.views id v at) in (
      v,
      keeps,
      tt,
      subst (λ (ws : List ℕ). IsDrawnOnce size ws (set s.views id v)) same_words (subst (λ (vs : List View). IsDrawnOnce size s.words vs) same_views r),
      (refl, hands_apart size s.words s.views id r h k at),
    )

pub loads_meeting : (slots size id : ℕ) (me : Sat) (h k : Hand) → me ≡ met size h k →
    Allows (holds size) slots id me 0 (λ n. n) (compares (step slots 0 0 0 none) me)
loads_meeting slots size id me h k is = subst (λ (m : Sat). Allows (holds size) slots id m 0 (λ n. n) (compares (step slots 0 0 0 none) m)) (sym is)
    (loads_met slots size id h k)
