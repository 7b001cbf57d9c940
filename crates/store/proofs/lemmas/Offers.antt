-- Positions that are offered to the open entries, one after the other.
use Rattle.std.proofs.Common.{◌≡◌, ℕ, zero, suc, ◌+◌, Bool, true, false, cond, ◌&&◌, ◌||◌, fold, nat_eq, ◌==◌, List, [], ◌∷◌, ◌++◌, length, map, Option, Some}
use Rattle.std.proofs.Common.{None, is_some, not, refl, sym, ap, subst, ◌∙◌, if◌then◌else◌, arith}
use Rattle.std.proofs.lemmas.Option.{same_Some, none-some}
use Rattle.std.proofs.lemmas.Bool.Decides.{nat_tests}
use lib.Pointwise.{pointwise, bytes_decides}
use Rattle.std.specs.Prelude.{slice_get}
use Rattle.grid.specs.declared.square.Push.{Push}
use Rattle.indexmap.specs.IndexMap.{insert_entry}
use Rattle.std.specs.Ordering.{is_lt}
use Rattle.grid.specs.Board.{Scene, push_cmp}
use Rattle.successors.specs.Layered.{IsIn}
use Rattle.store.specs.Entries.{Origin, origin_cmp, OpenEntry, lesser, same_scene, origin_of}
use Rattle.successors.specs.declared.parcel.Successor.{Successor}
use Rattle.store.specs.Entering.{offered, entered}
use Rattle.std.proofs.lemmas.List.{length-append, length-map}
use Rattle.std.specs.List.{list_any}
use Rattle.store.proofs.lemmas.Origins.{best}
use Rattle.successors.proofs.lemmas.Lists.{Distinct, distinct_push}

pub and_both : (a b : Bool) → (a && b) ≡ true → (a ≡ true) × (b ≡ true)
and_both true true e = (refl, refl)
and_both true false e = cc
and_both false b e = cc

-- the test of two positions says whether they are equal
pub same_true : (m n : Scene) → same_scene m n ≡ true → m ≡ n
same_true m n e =
    let b = and_both (pointwise nat_eq m.boxes n.boxes) (m.player == n.player) e in
    let f : m.boxes ≡ n.boxes = (bytes_decides m.boxes n.boxes).0 b.0 in
    let g : m.player ≡ n.player = (let h = b.1 in grind (arith, nat_tests)) in
    λ i. record { boxes = f i; player = g i }

pub same_itself : (m : Scene) → same_scene m m ≡ true
same_itself m =
    let f = (bytes_decides m.boxes m.boxes).1 refl in
    let g : (m.player == m.player) ≡ true = grind (arith, nat_tests) in
    (λ i. f i && (m.player == m.player)) ∙ g

pub same_since : (m n : Scene) → m ≡ n → same_scene m n ≡ true
same_since m n e = subst (λ x. same_scene m x ≡ true) e (same_itself m)

pub same_flipped : (m n : Scene) → same_scene m n ≡ same_scene n m
same_flipped m n = grind (arith, same_since, same_true)

-- what an offered position is open with
pub origin_of-offered : (es : List (OpenEntry Scene Push)) (m : Scene) (o : Origin Push) → origin_of (offered es m o) m ≡ Some (best push_cmp (origin_of es m) o)
origin_of-offered [] m o = ap (λ b. cond b (Some o) None) (same_itself m)
origin_of-offered (e ∷ es) m o = grind (arith, origin_of-offered es m o)

-- each other position is open as before
pub origin_of-other : (es : List (OpenEntry Scene Push)) (m n : Scene) (o : Origin Push) → same_scene n m ≡ false → origin_of (offered es m o) n ≡ origin_of es n
origin_of-other [] m n o other = ap (λ b. cond b (Some o) None) other
origin_of-other (e ∷ es) m n o other = go (same_scene m e.0) refl (same_scene n e.0) refl (origin_of-other es m n o other)
  where
    go : (b : Bool) → same_scene m e.0 ≡ b → (c : Bool) → same_scene n e.0 ≡ c → origin_of (offered es m o) n ≡ origin_of es n →
        origin_of (if b then (e.0, lesser push_cmp e.1 o) ∷ es else e ∷ offered es m o) n ≡ cond (same_scene n e.0) (Some e.1) (origin_of es n)
    go true f true g t = let h = same_since n m (same_true n e.0 g ∙ sym (same_true m e.0 f)) in cc
    go true f false g t = ap (λ b. cond b (Some (lesser push_cmp e.1 o)) (origin_of es n)) g ∙ ap (λ b. cond b (Some e.1) (origin_of es n)) (sym g)
    go false f c g t = ap (λ x. cond (same_scene n e.0) (Some e.1) x) t

-- the positions of the open entries
abbrev pub open_places : List (OpenEntry Scene Push) → List Scene
open_places es = map (λ e. e.0) es

-- an open position has an index among them, and the entry there has its origin
pub origin-listed : (es : List (OpenEntry Scene Push)) (m : Scene) (o : Origin Push) → origin_of es m ≡ Some o → (i : ℕ) × (slice_get es i ≡ Some (m, o))
origin-listed [] m o e = cc
origin-listed (x ∷ es) m o e = go (same_scene m x.0) refl e (origin-listed es m o)
  where
    go : (b : Bool) → same_scene m x.0 ≡ b → cond b (Some x.1) (origin_of es m) ≡ Some o →
        (origin_of es m ≡ Some o → (i : ℕ) × (slice_get es i ≡ Some (m, o))) → (i : ℕ) × (slice_get (x ∷ es) i ≡ Some (m, o))
    go true f g t = (zero, let h = sym (same_true m x.0 f) in let k = same_Some x.1 o g in λ i. Some (h i, k i))
    go false f g t = let w = t g in (suc w.0, w.1)

-- a position that is not open is not among them
pub unlisted : (es : List (OpenEntry Scene Push)) (m : Scene) → origin_of es m ≡ None → ¬ (IsIn (open_places es) m)
unlisted [] m e w = none-some m w.1
unlisted (x ∷ es) m e (zero, at) = let h = same_since m x.0 (sym (same_Some x.0 m at)) in none-some x.1 (sym e ∙ ap (λ b. cond b (Some x.1) (origin_of es m)) h)
unlisted (x ∷ es) m e (suc i, at) = grind (arith, unlisted es m)

-- what stands at a place is what is found, where no position stands twice
pub listed-origin : (es : List (OpenEntry Scene Push)) → Distinct (open_places es) → (i : ℕ) (m : Scene) (o : Origin Push) → slice_get es i ≡ Some (m, o) →
    origin_of es m ≡ Some o
listed-origin es distinct i m o at = go (origin_of es m) refl
  where
    place : (xs : List (OpenEntry Scene Push)) (j : ℕ) (x : OpenEntry Scene Push) → slice_get xs j ≡ Some x → slice_get (open_places xs) j ≡ Some x.0
    place [] j x e = cc
    place (y ∷ xs) zero x e = ap (λ (z : Scene). Some z) (ap (λ (z : OpenEntry Scene Push). z.0) (same_Some y x e))
    place (y ∷ xs) (suc j) x e = place xs j x e

    go : (found : Option (Origin Push)) → origin_of es m ≡ found → origin_of es m ≡ Some o
    go None e = absurd (unlisted es m e (i, place es i (m, o) at))
    go (Some p) e =
        let w = origin-listed es m p e in
        let same : i ≡ w.0 = distinct i w.0 m (place es i (m, o) at) (place es w.0 (m, p) w.1) in
        let pair = same_Some (m, p) (m, o) (sym w.1 ∙ ap (slice_get es) (sym same) ∙ at) in
        e ∙ ap (λ (x : OpenEntry Scene Push). Some x.1) pair

-- an offered position comes last if it is new, and changes no place otherwise
offered-new : (es : List (OpenEntry Scene Push)) (m : Scene) (o : Origin Push) → origin_of es m ≡ None → open_places (offered es m o) ≡ open_places es ++ m ∷ []
offered-new [] m o e = refl
offered-new (x ∷ es) m o e = grind (arith, offered-new es m o)

offered-present : (es : List (OpenEntry Scene Push)) (m : Scene) (o p : Origin Push) → origin_of es m ≡ Some p → open_places (offered es m o) ≡ open_places es
offered-present [] m o p e = cc
offered-present (x ∷ es) m o p e = grind (arith, offered-present es m o p)

pub offered-distinct : (es : List (OpenEntry Scene Push)) (m : Scene) (o : Origin Push) → Distinct (open_places es) → Distinct (open_places (offered es m o))
offered-distinct es m o distinct = grind (arith, offered-new, distinct_push, unlisted, offered-present)

-- what holds of each place and of the offered position holds of each place after
pub offered-each : (P : Scene → Type 0) (es : List (OpenEntry Scene Push)) (m : Scene) (o : Origin Push) → P m → ((n : Scene) → IsIn (open_places es) n → P n) →
    (n : Scene) → IsIn (open_places (offered es m o)) n → P n
offered-each P es m o here each n = go (origin_of es m) refl
  where
    last : (xs : List Scene) → ((x : Scene) → IsIn xs x → P x) → IsIn (xs ++ m ∷ []) n → P n
    last [] f (zero, at) = subst P (same_Some m n at) here
    last [] f (suc i, at) = absurd (none-some n at)
    last (x ∷ xs) f (zero, at) = f n (zero, at)
    last (x ∷ xs) f (suc i, at) = last xs (λ y w. f y (suc w.0, w.1)) (i, at)

    go : (found : Option (Origin Push)) → origin_of es m ≡ found → IsIn (open_places (offered es m o)) n → P n
    go None e w = last (open_places es) each (subst (λ xs. IsIn xs n) (offered-new es m o e) w)
    go (Some p) e w = each n (subst (λ xs. IsIn xs n) (offered-present es m o p e) w)

-- ---- the same by a map's insert

-- an offer that is no less than what is there changes nothing
pub offered-kept : (es : List (OpenEntry Scene Push)) (m : Scene) (o a : Origin Push) → origin_of es m ≡ Some a → is_lt (origin_cmp push_cmp o a) ≡ false →
    offered es m o ≡ es
offered-kept [] m o a e f = cc
offered-kept (x ∷ es) m o a e f = grind (arith, offered-kept es m o a)

-- a lesser offer, or one of a new position, is what an insert leaves
pub offered-less : (es : List (OpenEntry Scene Push)) (m : Scene) (o a : Origin Push) → origin_of es m ≡ Some a → is_lt (origin_cmp push_cmp o a) ≡ true →
    insert_entry same_scene es m o ≡ offered es m o
offered-less [] m o a e f = refl
offered-less (x ∷ es) m o a e f = go (same_scene m x.0) e (offered-less es m o a)
  where
    go : (b : Bool) → cond b (Some x.1) (origin_of es m) ≡ Some a →
        (origin_of es m ≡ Some a → is_lt (origin_cmp push_cmp o a) ≡ true → insert_entry same_scene es m o ≡ offered es m o) →
        (if b then (x.0, o) ∷ es else x ∷ insert_entry same_scene es m o) ≡ (if b then (x.0, lesser push_cmp x.1 o) ∷ es else x ∷ offered es m o)
    go true h t = let k = ap (λ y. is_lt (origin_cmp push_cmp o y)) (same_Some x.1 a h) ∙ f in λ i. (x.0, if sym k i then o else x.1) ∷ es
    go false h t = ap (λ ys. x ∷ ys) (t h f)

pub offered_first : (es : List (OpenEntry Scene Push)) (m : Scene) (o : Origin Push) → origin_of es m ≡ None → insert_entry same_scene es m o ≡ offered es m o
offered_first [] m o e = refl
offered_first (x ∷ es) m o e = grind (arith, offered_first es m o)

-- ---- how many positions are new

pub length-offered : (es : List (OpenEntry Scene Push)) (m : Scene) (o : Origin Push) → length (offered es m o) ≡ length es + cond (is_some (origin_of es m)) 0 1
length-offered es m o = go (origin_of es m) refl
  where
    go : (found : Option (Origin Push)) → origin_of es m ≡ found → length (offered es m o) ≡ length es + cond (is_some found) 0 1
    go None e = omega (
      arith,
      length-map (offered es m o) (λ (x : OpenEntry Scene Push). x.0),
      length-map es (λ (x : OpenEntry Scene Push). x.0),
      ap length (offered-new es m o e),
      length-append (open_places es) (m ∷ []),
    )
    go (Some p) e = omega (
      arith,
      length-map (offered es m o) (λ (x : OpenEntry Scene Push). x.0),
      length-map es (λ (x : OpenEntry Scene Push). x.0),
      ap length (offered-present es m o p e),
    )

-- a wanted position is open after a successor has entered if it was before or is the successor's
open-entered : (wanted : Scene → Bool) (rank : ℕ) (es : List (OpenEntry Scene Push)) (s : Successor) (m : Scene) → wanted m ≡ true →
    is_some (origin_of (entered wanted rank es s) m) ≡ (is_some (origin_of es m) || same_scene s.position m)
open-entered wanted rank es s m want = grind (arith, origin_of-offered, origin_of-other, same_since, same_true)

-- after some have entered, if it was before or is one of theirs
pub open-after : (wanted : Scene → Bool) (rank : ℕ) (ss : List Successor) (es : List (OpenEntry Scene Push)) (m : Scene) → wanted m ≡ true →
    is_some (origin_of (fold (entered wanted rank) es ss) m) ≡ (is_some (origin_of es m) || list_any (λ s. same_scene s.position m) ss)
open-after wanted rank [] es m want = grind arith
open-after wanted rank (s ∷ ss) es m want =
    grind (arith, open-after wanted rank ss (entered wanted rank es s) m want, open-entered)

-- one more successor enters after the others
pub entered_more : (wanted : Scene → Bool) (rank : ℕ) (ss : List Successor) (es : List (OpenEntry Scene Push)) (s : Successor) →
    fold (entered wanted rank) es (ss ++ s ∷ []) ≡ entered wanted rank (fold (entered wanted rank) es ss) s
entered_more wanted rank [] es s = refl
entered_more wanted rank (t ∷ ss) es s = entered_more wanted rank ss (entered wanted rank es t) s

-- so one more successor makes one position more if it is wanted, was not open and is no earlier one's
pub length-entered : (wanted : Scene → Bool) (rank : ℕ) (ss : List Successor) (es : List (OpenEntry Scene Push)) (s : Successor) →
    length (fold (entered wanted rank) es (ss ++ s ∷ [])) ≡ length (fold (entered wanted rank) es ss) + cond (wanted s.position &&
    not (is_some (origin_of es s.position) || list_any (λ t. same_scene t.position s.position) ss)) 1 0
length-entered wanted rank ss es s = grind (arith, entered_more, length-offered, open-after)
