-- Indices of positions among entries: how they are written, what a look-up gives, and that they stay while offers enter.
use Rattle.std.proofs.Common.{◌≡◌, ℕ, zero, suc, ◌+◌, ◌<◌, ◌≤◌, Bool, true, false, cond, not, is_some, List, [], ◌∷◌, ◌++◌, length, map, get_or, set}
use Rattle.std.proofs.Common.{position, Option, Some, inl, inr, refl, sym, ap, subst, ◌∙◌, if◌then◌else◌, arith}
use Rattle.std.proofs.lemmas.Bool.{cases_lt}
use Rattle.std.proofs.lemmas.Grind.{get_or-set_at}
use Rattle.std.proofs.lemmas.Iterator.Adapters.{position_from-zero}
use Rattle.std.proofs.lemmas.List.{append-nil, append_assoc, get_or-set_other}
use Rattle.std.proofs.lemmas.Option.{same_Some, none-some, slice_get_read}
use Rattle.std.specs.List.{position_from}
use Rattle.std.specs.Map.{lookup, keys_of}
use Rattle.std.specs.Ordering.{is_lt}
use Rattle.std.specs.Prelude.{slice_get}
use Rattle.grid.specs.declared.square.Push.{Push}
use Rattle.grid.specs.Board.{Scene, push_cmp}
use Rattle.successors.proofs.lemmas.Lists.{at_before}
use Rattle.store.specs.Entries.{Closed, OpenEntry, Origin, lesser, origin_cmp, same_scene}
use Rattle.store.specs.Entering.{closed_entry, offered}
use Rattle.store.specs.FoundView.{IsFound, all_let_in, keeps, let_in, open_of, seen_of}
use Rattle.store.specs.inside.Indices.{HasKeyAt}
use Rattle.store.proofs.Keeping.{standing_kept, standing_less}
use Rattle.store.proofs.lemmas.Offers.{open_places, same_since, same_true}
use Rattle.store.proofs.Tails.{split}

-- ---- a row with a number for each element of a list

-- one more number is written
pub each_written : {A : Type 0} (P : A → ℕ → Type 0) (xs : List A) (row : List ℕ) (nth k : ℕ) (x : A) → nth < length xs → length xs ≤ length row →
    x ≡ get_or xs nth x → P x k → ((i : ℕ) (y : A) → i < nth → slice_get xs i ≡ Some y → P y (get_or row i 0)) →
    (i : ℕ) (y : A) → i < nth + 1 → slice_get xs i ≡ Some y → P y (get_or (set row nth k) i 0)
each_written P xs row nth k x here room read new before i y less at = elim (cases_lt i nth) [
  | inl lower ↦ subst (P y) (sym (get_or-set_other row nth i k 0 (λ same. omega (arith, same, lower)))) (before i y lower at)
  | inr more ↦ (let same : i ≡ nth = omega (arith, less, more) in
      let first : y ≡ x = same_Some y x (sym at ∙ ap (slice_get xs) same ∙ slice_get_read xs (length xs) nth x refl here read) in
      subst (P y) (sym (get_or-set_at row nth i k 0 same (omega (arith, here, room)))) (subst (λ z. P z k) (sym first) new))
]

-- ---- what a look-up gives

found_from : (m : Scene) (k i : ℕ) (es : List Closed) → position_from (same_scene m) k (keys_of es) ≡ Some i →
    (j : ℕ) × (i ≡ k + j) × (slice_get (keys_of es) j ≡ Some m)
found_from m k i [] e = absurd (none-some i e)
found_from m k i (x ∷ es) e = go (same_scene m x.0) refl e (found_from m (k + 1) i es)
  where
    go : (b : Bool) → same_scene m x.0 ≡ b → cond b (Some k) (position_from (same_scene m) (k + 1) (keys_of es)) ≡ Some i →
        (position_from (same_scene m) (k + 1) (keys_of es) ≡ Some i → (j : ℕ) × (i ≡ k + 1 + j) × (slice_get (keys_of es) j ≡ Some m)) →
        (j : ℕ) × (i ≡ k + j) × (slice_get (keys_of (x ∷ es)) j ≡ Some m)
    go true s f t = (zero, omega (arith, same_Some k i f), ap Some (sym (same_true m x.0 s)))
    go false s f t = let w = t f in (suc w.0, omega (arith, w.1), w.2)

-- a position has the index at which it is found
pub stands_found : (m : Scene) (place : ℕ) (es : List Closed) → Some place ≡ position (same_scene m) (keys_of es) → HasKeyAt es place m
stands_found m place es e = grind (arith, found_from, position_from-zero)

-- the entry at a position's index is the position's
standing : (m : Scene) (place : ℕ) (es : List Closed) → HasKeyAt es place m → (e : Closed) × (slice_get es place ≡ Some e) × (same_scene e.0 m ≡ true)
standing m place [] at = cc
standing m zero (x ∷ es) at = (x, refl, same_since x.0 m (same_Some x.0 m at))
standing m (suc place) (x ∷ es) at = standing m place es at

-- an offer of a closed position changes nothing
pub place_kept : (m : Scene) (o : Origin Push) (start place : ℕ) (es : List Closed) → HasKeyAt es place m → place < start →
    true ≡ keeps (seen_of start es) (open_of start es) m o
place_kept m o start place es at lt = let w = standing m place es at in standing_kept m o start place es w.0 w.1 w.2 lt

-- nor if the offer's origin does not come before its own
pub place_less : (m : Scene) (o : Origin Push) (start place : ℕ) (es : List Closed) (k : Scene) (v : Option (Origin Push)) (less : Bool) → IsFound start es →
    HasKeyAt es place m → slice_get es place ≡ Some (k, v) → lookup (same_scene k) es ≡ Some v →
    ((p : Origin Push) → v ≡ Some p → less ≡ is_lt (origin_cmp push_cmp o p)) →
    not less ≡ true → true ≡ keeps (seen_of start es) (open_of start es) m o
place_less m o start place es k v less found at read is lesser told =
    let w = standing m place es at in
    let e : w.0 ≡ (k, v) = same_Some w.0 (k, v) (sym w.1 ∙ read) in
    standing_less m o start es k v less found is (ap (λ (x : Closed). same_scene x.0 m) (sym e) ∙ w.2) lesser told

-- ---- how they stay

offered_front : (ws : List (OpenEntry Scene Push)) (m : Scene) (o : Origin Push) →
    (more : List Scene) × (open_places (offered ws m o) ≡ open_places ws ++ more)
offered_front [] m o = (m ∷ [], refl)
offered_front (w ∷ ws) m o = go (same_scene m w.0) (offered_front ws m o)
  where
    go : (b : Bool) → (more : List Scene) × (open_places (offered ws m o) ≡ open_places ws ++ more) →
        (more : List Scene) × (open_places (if b then (w.0, lesser push_cmp w.1 o) ∷ ws else w ∷ offered ws m o) ≡ w.0 ∷ (open_places ws ++ more))
    go true t = ([], ap (λ xs. w.0 ∷ xs) (sym (append-nil (open_places ws))))
    go false t = (t.0, ap (λ xs. w.0 ∷ xs) t.1)

let_in_front : (seen : List Closed) (ws : List (OpenEntry Scene Push)) (e : OpenEntry Scene Push) →
    (more : List Scene) × (open_places (let_in seen ws e) ≡ open_places ws ++ more)
let_in_front seen ws e = go (is_some (lookup (same_scene e.0) seen))
  where
    go : (b : Bool) → (more : List Scene) × (open_places (if b then ws else offered ws e.0 e.1) ≡ open_places ws ++ more)
    go true = ([], sym (append-nil (open_places ws)))
    go false = offered_front ws e.0 e.1

all_front : (seen : List Closed) (offers ws : List (OpenEntry Scene Push)) →
    (more : List Scene) × (open_places (all_let_in seen ws offers) ≡ open_places ws ++ more)
all_front seen [] ws = ([], sym (append-nil (open_places ws)))
all_front seen (e ∷ offers) ws =
    let one = let_in_front seen ws e in
    let rest = all_front seen offers (let_in seen ws e) in
    (one.0 ++ rest.0, rest.1 ∙ ap (λ xs. xs ++ rest.0) one.1 ∙ append_assoc (open_places ws) one.0 rest.0)

keys_joined : (xs : List Closed) (ws : List (OpenEntry Scene Push)) → keys_of (xs ++ map closed_entry ws) ≡ keys_of xs ++ open_places ws
keys_joined [] [] = refl
keys_joined [] (w ∷ ws) = ap (λ ks. w.0 ∷ ks) (keys_joined [] ws)
keys_joined (x ∷ xs) ws = ap (λ ks. x.0 ∷ ks) (keys_joined xs ws)

keys_apart : (start : ℕ) (es : List Closed) → IsFound start es → keys_of es ≡ keys_of (seen_of start es) ++ open_places (open_of start es)
keys_apart start es found = ap keys_of (split start es found) ∙ keys_joined (seen_of start es) (open_of start es)

-- the position at an index keeps it while offers enter
pub stays : (start : ℕ) (es later : List Closed) (offers : List (OpenEntry Scene Push)) (place : ℕ) (m : Scene) → IsFound start es → IsFound start later →
    seen_of start later ≡ seen_of start es → open_of start later ≡ all_let_in (seen_of start es) (open_of start es) offers →
    HasKeyAt es place m → HasKeyAt later place m
stays start es later offers place m found founds seen waits at =
    let front = all_front (seen_of start es) offers (open_of start es) in
    let keys : keys_of later ≡ keys_of es ++ front.0 =
    keys_apart start later founds ∙ (λ i. keys_of (seen i) ++ open_places (waits i)) ∙ ap (λ ks. keys_of (seen_of start es) ++ ks) front.1 ∙
    sym (append_assoc (keys_of (seen_of start es)) (open_places (open_of start es)) front.0) ∙ ap (λ ks. ks ++ front.0) (sym (keys_apart start es found)) in
    ap (λ ks. slice_get ks place) keys ∙ at_before (keys_of es) front.0 place m at
