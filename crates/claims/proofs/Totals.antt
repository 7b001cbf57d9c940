-- Sums over the hands of all views, where one view changes or one is added.
use Rattle.std.proofs.Common.{◌≡◌, ℕ, zero, suc, ◌+◌, ◌≤◌, List, [], ◌∷◌, ◌++◌, set, refl, sym, ap, arith}
use Rattle.std.specs.Prelude.{All, sum_by}
use mathlib.Core.Option.{some, some-injective, some-ne-none}
use lib.ListN.{get_elem?}
use Rattle.std.proofs.lemmas.List.Sums.{sum_by-cons, sum_by_push}
use Rattle.std.proofs.lemmas.List.Elements.{All-head, All-tail}
use Rattle.claims.specs.declared.views.Hand.{Hand}
use Rattle.claims.specs.declared.views.View.{View}
use Rattle.claims.specs.Rule.{over_hands}

module _ (f : Hand → ℕ) where
  pub over_cons : (v : View) (vs : List View) → over_hands f (v ∷ vs) ≡ sum_by f v.hands + over_hands f vs
  over_cons v vs = sum_by-cons (λ (u : View). sum_by f u.hands) v vs

  -- the sum changes by what one view changes
  pub over_set : (views : List View) (i : ℕ) (v w : View) → get_elem? views i ≡ some v →
      over_hands f (set views i w) + sum_by f v.hands ≡ over_hands f views + sum_by f w.hands
  over_set [] i v w at = absurd (some-ne-none v (sym at))
  over_set (x ∷ xs) zero v w at =
      let same : sum_by f x.hands ≡ sum_by f v.hands = ap (λ (u : View). sum_by f u.hands) (some-injective x v at) in
      let before = over_cons x xs in
      let after = over_cons w xs in
      omega arith
  over_set (x ∷ xs) (suc i) v w at =
      let rest = over_set xs i v w at in
      let before = over_cons x xs in
      let after = over_cons x (set xs i w) in
      omega arith

  -- the sum grows by the view that is added
  pub over_push : (views : List View) (v : View) → over_hands f (views ++ v ∷ []) ≡ over_hands f views + sum_by f v.hands
  over_push views v = sum_by_push (λ (u : View). sum_by f u.hands) views v

  -- one view has at most the whole sum
  pub over_part : (views : List View) (i : ℕ) (v : View) → get_elem? views i ≡ some v → sum_by f v.hands ≤ over_hands f views
  over_part [] i v at = absurd (some-ne-none v (sym at))
  over_part (x ∷ xs) zero v at =
      let same : sum_by f x.hands ≡ sum_by f v.hands = ap (λ (u : View). sum_by f u.hands) (some-injective x v at) in
      let all = over_cons x xs in
      omega arith
  over_part (x ∷ xs) (suc i) v at =
      let rest = over_part xs i v at in
      let all = over_cons x xs in
      omega arith

-- what is at most as much in each hand is at most as much in all
module _ (f g : Hand → ℕ) (P : Hand → Type 0) (less : (h : Hand) → P h → f h ≤ g h) where
  hands_le : (hs : List Hand) → All P hs → sum_by f hs ≤ sum_by g hs
  hands_le [] all = omega arith
  hands_le (h ∷ hs) all =
      let here = less h (All-head P h hs all) in
      let rest = hands_le hs (All-tail P h hs all) in
      let left = sum_by-cons f h hs in
      let right = sum_by-cons g h hs in
      omega arith

  pub over_le : (views : List View) → ((i : ℕ) (v : View) → get_elem? views i ≡ some v → All P v.hands) → over_hands f views ≤ over_hands g views
  over_le [] all = omega arith
  over_le (v ∷ vs) all =
      let here = hands_le v.hands (all 0 v refl) in
      let rest = over_le vs (λ i. all (suc i)) in
      let left = over_cons f v vs in
      let right = over_cons g v vs in
      omega arith
