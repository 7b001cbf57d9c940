-- Offers that change nothing, and what the entries hold after one that changes something.
use Rattle.std.proofs.Common.{◌≡◌, ℕ, zero, suc, ◌<◌, ◌≤◌, Bool, true, false, cond, ◌||◌, not, is_some, List, [], ◌∷◌, length, position}
use Rattle.std.proofs.Common.{Option, Some, None, refl, sym, ap, subst, ◌∙◌, arith}
use Rattle.std.proofs.lemmas.Option.{same_Some, none-some}
use Rattle.std.specs.Prelude.{slice_get}
use Rattle.std.specs.List.{position_or_len}
use Rattle.std.specs.Map.{lookup, keys_of}
use Rattle.std.specs.Ordering.{is_lt}
use Rattle.indexmap.specs.IndexMap.{insert_entry}
use Rattle.grid.specs.declared.square.Push.{Push}
use Rattle.grid.specs.Board.{Scene, push_cmp}
use Rattle.store.specs.Entries.{Origin, origin_cmp, same_scene, Closed, origin_of}
use Rattle.store.specs.FoundView.{IsFound, is_least, keeps, let_in, open_of, seen_of}
use Rattle.store.proofs.lemmas.Offers.{same_flipped, same_true}
use Rattle.store.proofs.Tails.{absent_not_kept, as_closed, below, joined, let_in_kept, let_in_put, look_rest, no_some, not_below, placed, seen_at, there_kept}

-- an offer of what is closed changes nothing
closed_kept : (m : Scene) (o : Origin Push) (start : ℕ) (es : List Closed) (i : ℕ) → position (same_scene m) (keys_of es) ≡ Some i → i < start →
    true ≡ keeps (seen_of start es) (open_of start es) m o
closed_kept m o start es i at lt = ap (λ b. b || is_least (origin_of (open_of start es) m) o) (sym (below i start lt) ∙ sym (placed m i start es at))

-- an entry that stands at a place is found
at_place : (m : Scene) (es : List Closed) (i : ℕ) (e : Closed) → slice_get es i ≡ Some e → same_scene m e.0 ≡ true →
    (v : Option (Origin Push)) × (lookup (same_scene m) es ≡ Some v)
at_place m [] i e at same = cc
at_place m (x ∷ es) zero e at same =
    let here : same_scene m x.0 ≡ true = subst (λ (y : Closed). same_scene m y.0 ≡ true) (sym (same_Some x e at)) same in
    (x.1, ap (λ b. cond b (Some x.1) (lookup (same_scene m) es)) here)
at_place m (x ∷ es) (suc i) e at same = go (same_scene m x.0) (at_place m es i e at same)
  where
    go : (b : Bool) → (v : Option (Origin Push)) × (lookup (same_scene m) es ≡ Some v) →
        (v : Option (Origin Push)) × (cond b (Some x.1) (lookup (same_scene m) es) ≡ Some v)
    go true w = (x.1, refl)
    go false w = w

-- so an offer of the position of a closed entry changes nothing
pub standing_kept : (m : Scene) (o : Origin Push) (start i : ℕ) (es : List Closed) (e : Closed) → slice_get es i ≡ Some e →
    same_scene e.0 m ≡ true → i < start → true ≡ keeps (seen_of start es) (open_of start es) m o
standing_kept m o start i es e at same lt = grind (arith, at_place, seen_at, same_flipped)

-- nor does one of what is there with an origin that the offer's does not come before
pub less_kept : (m : Scene) (o : Origin Push) (start : ℕ) (es : List Closed) → IsFound start es → (v : Option (Origin Push)) (less : Bool) →
    lookup (same_scene m) es ≡ Some v → ((p : Origin Push) → v ≡ Some p → less ≡ is_lt (origin_cmp push_cmp o p)) →
    not less ≡ true → true ≡ keeps (seen_of start es) (open_of start es) m o
less_kept m o start es found v less is lesser told = go (is_some (lookup (same_scene m) (seen_of start es))) refl (origin_of (open_of start es) m) refl
  where
    go : (b : Bool) → is_some (lookup (same_scene m) (seen_of start es)) ≡ b → (f : Option (Origin Push)) → origin_of (open_of start es) m ≡ f →
        true ≡ keeps (seen_of start es) (open_of start es) m o
    go true e f g = ap (λ x. x || is_least (origin_of (open_of start es) m) o) (sym e)
    go false e None g =
        let rest = look_rest m start es found (no_some (lookup (same_scene m) (seen_of start es)) e) in
        absurd (none-some v (sym (rest ∙ ap as_closed g) ∙ is))
    go false e (Some p) g =
        let rest = look_rest m start es found (no_some (lookup (same_scene m) (seen_of start es)) e) in
        let same : v ≡ Some p = sym (same_Some (Some p) v (sym (rest ∙ ap as_closed g) ∙ is)) in
        sym told ∙ ap not (lesser p same) ∙ (λ j. sym e j || is_least (sym g j) o)

-- so an offer of the position of an entry changes nothing where its origin does not come before the entry's
pub standing_less : (m : Scene) (o : Origin Push) (start : ℕ) (es : List Closed) (k : Scene) (v : Option (Origin Push)) (less : Bool) → IsFound start es →
    lookup (same_scene k) es ≡ Some v → same_scene k m ≡ true → ((p : Origin Push) → v ≡ Some p → less ≡ is_lt (origin_cmp push_cmp o p)) →
    not less ≡ true → true ≡ keeps (seen_of start es) (open_of start es) m o
standing_less m o start es k v less found is same =
    less_kept m o start es found v less (ap (λ (n : Scene). lookup (same_scene n) es) (sym (same_true k m same)) ∙ is)

-- ---- one more offer

-- what the entries hold once an offer that changes something was put among them
pub inserted_parts : (start : ℕ) (es new : List Closed) (m : Scene) (o : Origin Push) → IsFound start es →
    false ≡ keeps (seen_of start es) (open_of start es) m o → new ≡ insert_entry same_scene es m (Some o) →
    (seen_of start new ≡ seen_of start es) × (open_of start new ≡ let_in (seen_of start es) (open_of start es) (m, o)) × IsFound start new
inserted_parts start es new m o found changes put =
    joined start es new (let_in (seen_of start es) (open_of start es) (m, o)) found.within (let_in_put start es new m o found changes put)

-- and where it changes nothing
pub kept_open : (start : ℕ) (es new : List Closed) (m : Scene) (o : Origin Push) → new ≡ es → true ≡ keeps (seen_of start es) (open_of start es) m o →
    open_of start new ≡ let_in (seen_of start es) (open_of start es) (m, o)
kept_open start es new m o same kept = ap (open_of start) same ∙ let_in_kept (seen_of start es) (open_of start es) m o kept

-- ---- where what is there stands

stands_within : (m : Scene) (v : Option (Origin Push)) (es : List Closed) → lookup (same_scene m) es ≡ Some v →
    position_or_len (same_scene m) (keys_of es) < length (keys_of es)
stands_within m v [] e = absurd (none-some v e)
stands_within m v (x ∷ es) e = grind (arith, stands_within m v es)

-- a position that has an entry stands where it would be put
stands : (m : Scene) (v : Option (Origin Push)) (es : List Closed) (i : ℕ) → lookup (same_scene m) es ≡ Some v →
    i ≡ position_or_len (same_scene m) (keys_of es) → position (same_scene m) (keys_of es) ≡ Some i
stands m v es i e at = ap (λ b. cond b (Some (position_or_len (same_scene m) (keys_of es))) None)
    (below (position_or_len (same_scene m) (keys_of es)) (length (keys_of es)) (stands_within m v es e)) ∙ ap Some (sym at)

-- an offer of a position that has no entry changes something
pub vacant_changes : (m k : Scene) (o : Origin Push) (start : ℕ) (es : List Closed) → IsFound start es → k ≡ m → lookup (same_scene k) es ≡ None →
    false ≡ keeps (seen_of start es) (open_of start es) m o
vacant_changes m k o start es found same none =
    absent_not_kept m o start es found (ap (λ (n : Scene). lookup (same_scene n) es) (sym same) ∙ none)

module _ (m k : Scene) (o : Origin Push) (start : ℕ) (es : List Closed) (i : ℕ) (v : Option (Origin Push)) (same : k ≡ m)
    (there : lookup (same_scene k) es ≡ Some v) (stood : i ≡ position_or_len (same_scene k) (keys_of es)) where
  here : lookup (same_scene m) es ≡ Some v
  here = ap (λ (n : Scene). lookup (same_scene n) es) (sym same) ∙ there

  place : position (same_scene m) (keys_of es) ≡ Some i
  place = stands m v es i here (stood ∙ ap (λ (n : Scene). position_or_len (same_scene n) (keys_of es)) same)

  -- an offer of the position of an entry changes nothing if the entry is closed
  pub occupied_closed : i < start → true ≡ keeps (seen_of start es) (open_of start es) m o
  occupied_closed lt = closed_kept m o start es i place lt

  -- and otherwise if its origin does not come before the entry's
  pub occupied_open : (less : Bool) → IsFound start es → start ≤ i → ((p : Origin Push) → v ≡ Some p → less ≡ is_lt (origin_cmp push_cmp o p)) →
      not less ≡ keeps (seen_of start es) (open_of start es) m o
  occupied_open less found after lesser = ap (λ b. b || not less) (sym (not_below i start after)) ∙ there_kept m o start es found i v less place here lesser
