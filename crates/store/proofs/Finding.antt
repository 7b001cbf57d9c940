-- The place that a look-up of a position gives.
use Rattle.std.proofs.Common.{◌≡◌, ℕ, zero, suc, ◌+◌, Bool, true, false, cond, List, [], ◌∷◌, Option, Some, None, position}
use Rattle.std.proofs.Common.{refl, sym, ◌∙◌, arith}
use Rattle.std.proofs.lemmas.Iterator.Adapters.{position_from-zero}
use Rattle.std.proofs.lemmas.Option.{same_Some, none-some}
use Rattle.std.specs.List.{position_from}
use Rattle.std.specs.Map.{keys_of}
use Rattle.std.specs.Prelude.{slice_get}
use Rattle.grid.specs.Board.{Scene}
use Rattle.store.specs.Entries.{same_scene}
use Rattle.store.specs.Places.{IsPlaceOf}
use Rattle.store.specs.Visited.{Node, IsNew, entries_of, entry_of}
use Rattle.store.specs.declared.visited.Label.{Label}
use Rattle.store.proofs.lemmas.Offers.{same_since, same_true}

found_from : (m : Scene) (k i : ℕ) (es : List (Scene × Label)) → position_from (same_scene m) k (keys_of es) ≡ Some i →
    (j : ℕ) × (i ≡ k + j) × (x : Node) × (slice_get (entries_of es) j ≡ Some x) × (x.position ≡ m)
found_from m k i [] e = absurd (none-some i e)
found_from m k i (x ∷ es) e = go (same_scene m x.0) refl e (found_from m (k + 1) i es)
  where
    go : (b : Bool) → same_scene m x.0 ≡ b → cond b (Some k) (position_from (same_scene m) (k + 1) (keys_of es)) ≡ Some i →
        (position_from (same_scene m) (k + 1) (keys_of es) ≡ Some i → (j : ℕ) × (i ≡ k + 1 + j) × (y : Node) ×
        (slice_get (entries_of es) j ≡ Some y) × (y.position ≡ m)) →
        (j : ℕ) × (i ≡ k + j) × (y : Node) × (slice_get (entries_of (x ∷ es)) j ≡ Some y) × (y.position ≡ m)
    go true s f t = (zero, omega (arith, same_Some k i f), entry_of x, refl, sym (same_true m x.0 s))
    go false s f t = let (j, is, y, there, same) = t f in (suc j, omega (arith, is), y, there, same)

new_from : (m : Scene) (k : ℕ) (es : List (Scene × Label)) → position_from (same_scene m) k (keys_of es) ≡ None → IsNew (entries_of es) m
new_from m k [] none = λ i x at same. none-some x at
new_from m k (e ∷ es) none = grind (arith, new_from m (k + 1) es, none-some, same_Some, same_since)

-- a position has the place at which it is found, and is new if it is not found
pub place_found : (m : Scene) (es : List (Scene × Label)) (place : Option ℕ) → place ≡ position (same_scene m) (keys_of es) →
    IsPlaceOf (entries_of es) m place
place_found m es None e = new_from m 0 es (sym (position_from-zero (same_scene m) (keys_of es)) ∙ sym e)
place_found m es (Some place) e = grind (arith, found_from, position_from-zero)
