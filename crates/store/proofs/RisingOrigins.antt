-- Origins that rise, one entry after the other.
use Rattle.std.proofs.Common.{◌≡◌, false, List, [], ◌∷◌, ◌++◌, refl, ap, ◌∙◌, inl, inr, arith}
use Rattle.std.proofs.lemmas.Option.{none-some, slice_get_within}
use Rattle.std.specs.Cmp.{IsTotalOrder}
use Rattle.std.specs.declared.cmp.Ordering.{Ordering}
use Rattle.std.specs.declared.cmp.Ordering.TheVariants.{Less, Equal, Greater}
use Rattle.std.specs.Ordering.{is_lt, is_gt, ordering_reverse}
use Rattle.grid.specs.declared.square.Push.{Push}
use Rattle.grid.specs.Board.{Scene, push_cmp}
use Rattle.store.specs.Entries.{Origin, origin_cmp, OpenEntry}
use Rattle.store.specs.Entering.{RiseByOrigin}
use Rattle.store.specs.FoundView.{NoneExceed}
use Rattle.grid.proofs.lemmas.Orders.{push_cmp_total}
use Rattle.store.proofs.lemmas.Origins.{origin_total}
use Rattle.successors.proofs.lemmas.Lists.{at-push}

pub least_first : {A : Type 0} {R : A → A → Ordering} → IsTotalOrder R → (a b c : A) → is_gt (R a b) ≡ false → is_gt (R b c) ≡ false → is_gt (R a c) ≡ false
least_first {A} {R} total a b c e f = grind arith

pub not_greater : (a b : Origin Push) → is_lt (origin_cmp push_cmp b a) ≡ false → is_gt (origin_cmp push_cmp a b) ≡ false
not_greater a b e = ap is_gt ((origin_total push_cmp_total).antisymm a b) ∙ turned (origin_cmp push_cmp b a) e
  where
    turned : (o : Ordering) → is_lt o ≡ false → is_gt (ordering_reverse o) ≡ false
    turned Less f = cc
    turned Equal f = refl
    turned Greater f = refl

-- one more that is no less than the last one
pub rise_more : (ws : List (OpenEntry Scene Push)) (last : Origin Push) (e : OpenEntry Scene Push) → RiseByOrigin ws → NoneExceed ws last →
    is_lt (origin_cmp push_cmp e.1 last) ≡ false → RiseByOrigin (ws ++ e ∷ []) × NoneExceed (ws ++ e ∷ []) e.1
rise_more ws last e rise none less = (rises, bounded)
  where
    total : IsTotalOrder (origin_cmp push_cmp)
    total = origin_total push_cmp_total

    before : NoneExceed ws e.1
    before i x at = least_first total x.1 last e.1 (none i x at) (not_greater last e.1 less)

    itself : is_gt (origin_cmp push_cmp e.1 e.1) ≡ false
    itself = go (origin_cmp push_cmp e.1 e.1) (total.antisymm e.1 e.1)
      where
        go : (o : Ordering) → o ≡ ordering_reverse o → is_gt o ≡ false
        go Less f = refl
        go Equal f = refl
        go Greater f = cc

    bounded : NoneExceed (ws ++ e ∷ []) e.1
    bounded i x at = elim (at-push ws e i x at) [
      | inl old ↦ before i x old
      | inr new ↦ ap (λ (y : OpenEntry Scene Push). is_gt (origin_cmp push_cmp y.1 e.1)) new.1 ∙ itself
    ]

    rises : RiseByOrigin (ws ++ e ∷ [])
    rises i j x y lt at_i at_j = elim (at-push ws e j y at_j) [
      | inl old ↦ elim (at-push ws e i x at_i) [
        | inl old_i ↦ rise i j x y lt old_i old
        | inr new_i ↦ absurd (omega (arith, lt, new_i.0, slice_get_within ws j y old))
      ]
      | inr new ↦ elim (at-push ws e i x at_i) [
        | inl old_i ↦ ap (λ (z : OpenEntry Scene Push). is_gt (origin_cmp push_cmp x.1 z.1)) new.1 ∙ before i x old_i
        | inr new_i ↦ absurd (omega (arith, lt, new_i.0, new.0))
      ]
    ]

pub rise_none : (last : Origin Push) → RiseByOrigin [] × NoneExceed [] last
rise_none last = (λ i j x y lt at_i at_j. absurd (none-some x at_i), λ i x at. absurd (none-some x at))
