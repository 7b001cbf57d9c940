-- The open entries, sorted and appended to the closed ones.
use Rattle.std.proofs.Common.{◌≡◌, ℕ, ◌<◌, false, List, Option, Some, None, refl, sym, ap, ◌∙◌, inl, inr, arith}
use Rattle.std.proofs.lemmas.Bool.{cases_lt}
use Rattle.std.proofs.lemmas.List.Sorted.{sorted_far, ranks_by, length_permutation, IsPermutation-map, IsPermutation-sym, Contains-permutation}
use Rattle.std.proofs.lemmas.Map.Keys.{apart_from_distinct, IsDistinct-IsPermutation}
use Rattle.std.proofs.lemmas.Option.{slice_get-get_or, slice_get_within, get_or_from_slice_get}
use Rattle.std.specs.Prelude.{slice_get}
use Rattle.std.specs.List.{IsDistinct}
use Rattle.std.specs.List.Sorted.{IsSortedBy, IsPermutation}
use Rattle.std.specs.declared.cmp.Ordering.{Ordering}
use Rattle.std.specs.declared.cmp.Ordering.TheVariants.{Less, Equal, Greater}
use Rattle.std.specs.Ordering.{ordering_reverse, is_gt, is_lt}
use Rattle.grid.specs.declared.square.Push.{Push}
use Rattle.grid.specs.Board.{Scene, push_cmp}
use Rattle.grid.proofs.lemmas.Orders.{push_cmp_total}
use Rattle.successors.specs.Layered.{IsIn}
use Rattle.store.specs.Entries.{Origin, origin_cmp, OpenEntry, same_scene, origin_of}
use Rattle.store.specs.Entering.{AreReordered}
use Rattle.successors.proofs.lemmas.Lists.{Distinct}
use Rattle.store.proofs.lemmas.Offers.{same_itself, same_flipped, open_places, origin-listed, listed-origin}
use Rattle.store.proofs.lemmas.Origins.{origin_total}

-- keys that a map keeps apart are distinct
pub distinct_from : (ks : List Scene) → IsDistinct same_scene ks → Distinct ks
distinct_from ks distinct i j a at_i at_j = elim (cases_lt i j) [
  | inl lt ↦ absurd (apart i j lt at_i at_j)
  | inr ge ↦ elim (cases_lt j i) [ inl lt ↦ absurd (apart j i lt at_j at_i) | inr le ↦ omega arith ]
]
  where
    apart : (k l : ℕ) → k < l → slice_get ks k ≡ Some a → slice_get ks l ≡ Some a → ⊥
    apart k l lt at_k at_l =
        let e = apart_from_distinct same_scene ks k l a distinct lt (slice_get_within ks l a at_l) in
        let f = same_itself a in
        let g = get_or_from_slice_get ks k a a at_k in
        let h = get_or_from_slice_get ks l a a at_l in cc

-- what is sorted by its origins rises by them
pub rise_from_sorted : {A : Type 0} (origin : A → Origin Push) (xs : List A) → IsSortedBy (λ a b. is_lt (origin_cmp push_cmp (origin a) (origin b))) xs →
    (i j : ℕ) (x y : A) → i < j → slice_get xs i ≡ Some x → slice_get xs j ≡ Some y → is_gt (origin_cmp push_cmp (origin x) (origin y)) ≡ false
rise_from_sorted {A} origin xs sorted i j x y lt at_i at_j =
    let total = origin_total push_cmp_total in
    let far = sorted_far (λ a b. is_lt (origin_cmp push_cmp (origin a) (origin b))) (ranks_by total (λ (z : A). origin z)) xs sorted i j x (omega arith)
    (slice_get_within xs j y at_j) in
    let read : is_lt (origin_cmp push_cmp (origin y) (origin x)) ≡ false =
    (λ n. is_lt (origin_cmp push_cmp (origin (sym (get_or_from_slice_get xs j y x at_j) n)) (origin (sym (get_or_from_slice_get xs i x x at_i) n)))) ∙
    far in
    ap is_gt (total.antisymm (origin x) (origin y)) ∙ turned (origin_cmp push_cmp (origin y) (origin x)) read
  where
    turned : (o : Ordering) → is_lt o ≡ false → is_gt (ordering_reverse o) ≡ false
    turned Less e = cc
    turned Equal e = refl
    turned Greater e = refl

-- what stands at a place of a list stands at one of each list with the same entries
pub moved : {A : Type 0} (x : A) (xs ys : List A) → IsPermutation xs ys → IsIn xs x → IsIn ys x
moved x xs ys same w =
    let there = Contains-permutation xs ys x same (w.0, slice_get_within xs w.0 x w.1, get_or_from_slice_get xs w.0 x x w.1) in
    (there.0, slice_get-get_or ys there.0 x there.1 ∙ ap Some there.2)

-- entries in another order, none twice, are the same to look up
pub reordered : (es ys : List (OpenEntry Scene Push)) → IsDistinct same_scene (open_places es) → IsPermutation es ys → AreReordered es ys
reordered es ys distinct same = (length_permutation es ys same, λ m. look m (origin_of es m) refl (origin_of ys m) refl, after)
  where
    before : Distinct (open_places es)
    before = distinct_from (open_places es) distinct

    after : Distinct (open_places ys)
    after = distinct_from (open_places ys) (IsDistinct-IsPermutation same_scene same_flipped (open_places es) (open_places ys)
        (IsPermutation-map (λ (e : OpenEntry Scene Push). e.0) es ys same) distinct)

    look : (m : Scene) (a : Option (Origin Push)) → origin_of es m ≡ a → (b : Option (Origin Push)) → origin_of ys m ≡ b → origin_of ys m ≡ origin_of es m
    look m (Some o) e b f =
        let w = moved (m, o) es ys same (origin-listed es m o e) in
        listed-origin ys after w.0 m o w.1 ∙ sym e
    look m None e None f = f ∙ sym e
    look m None e (Some o) f =
        let w = moved (m, o) ys es (IsPermutation-sym es ys same) (origin-listed ys m o f) in
        f ∙ sym (listed-origin es before w.0 m o w.1)
