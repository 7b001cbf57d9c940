-- One list of entries: the closed ones, and behind them those that are open.
use Rattle.std.proofs.Common.{◌≡◌, ℕ, zero, suc, ◌+◌, ◌<◌, ◌≤◌, Bool, true, false, ◌&&◌, ◌||◌, ◌==◌, not, is_some, ltb, List, [], ◌∷◌, ◌++◌, length}
use Rattle.std.proofs.Common.{map, take, drop, position, Option, Some, None, refl, sym, ap, subst, ◌∙◌, if◌then◌else◌, arith}
use Rattle.std.proofs.lemmas.Bool.Decides.{nat_tests}
use Rattle.std.proofs.lemmas.List.{take-append-drop, length-append}
use Rattle.std.proofs.lemmas.Option.{same_Some, none-some}
use Rattle.std.proofs.lemmas.Map.Keys.{IsDistinct-tail}
use Rattle.std.proofs.lemmas.Iterator.Adapters.{position_from-zero}
use Rattle.std.specs.Prelude.{slice_get}
use Rattle.std.specs.List.{position_from, IsDistinct}
use Rattle.std.specs.Map.{lookup, keys_of}
use Rattle.std.specs.Ordering.{is_lt}
use Rattle.indexmap.specs.IndexMap.{insert_entry}
use Rattle.grid.specs.declared.square.Push.{Push}
use Rattle.grid.specs.Board.{Scene, push_cmp}
use Rattle.store.specs.Entries.{Origin, origin_cmp, OpenEntry, same_scene, Closed, origin_of}
use Rattle.successors.specs.Shares.{share_of}
use Rattle.store.specs.Entering.{closed_entry, is_wanted_in, offered, RiseByOrigin, IsSortedAppend}
use Rattle.store.specs.FoundView.{FoundView, found_view, open_entry, seen_of, open_of, IsFound, is_least, keeps, let_in}
use Rattle.store.proofs.lemmas.Offers.{offered-kept, offered-less, offered_first}
use Rattle.successors.proofs.lemmas.Lists.{map-push}
use Rattle.store.proofs.lemmas.Closings.{distinct_from}
use Rattle.store.proofs.lemmas.Copies.{copied_more}

pub open_closed : (ws : List (OpenEntry Scene Push)) → map open_entry (map closed_entry ws) ≡ ws
open_closed [] = refl
open_closed (w ∷ ws) = ap (λ xs. w ∷ xs) (open_closed ws)

-- the entries are the closed ones and those that are open
pub split : (start : ℕ) (es : List Closed) → IsFound start es → es ≡ seen_of start es ++ map closed_entry (open_of start es)
split start es found = sym (take-append-drop start es) ∙ ap (λ xs. take start es ++ xs) (sym found.opened)

take_front : {A : Type 0} (xs ys : List A) → take (length xs) (xs ++ ys) ≡ xs
take_front [] ys = refl
take_front (x ∷ xs) ys = ap (λ zs. x ∷ zs) (take_front xs ys)

drop_front : {A : Type 0} (xs ys : List A) → drop (length xs) (xs ++ ys) ≡ ys
drop_front [] [] = refl
drop_front [] (y ∷ ys) = refl
drop_front (x ∷ xs) ys = drop_front xs ys

length_seen : (start : ℕ) (es : List Closed) → start ≤ length es → length (seen_of start es) ≡ start
length_seen zero es le = refl
length_seen (suc start) [] le = absurd (omega arith)
length_seen (suc start) (e ∷ es) le = ap suc (length_seen start es (omega arith))

-- there are as many closed entries as the place says
pub seen_long : (boxes squares start : ℕ) (es : List Closed) (pending : List (OpenEntry Scene Push)) (v : FoundView) → IsFound start es →
    found_view boxes squares start es pending ≡ v → length v.seen ≡ start
seen_long boxes squares start es pending v found e = ap (λ (u : FoundView). length u.seen) (sym e) ∙ length_seen start es found.within

-- an entry stands at each place
pub entry_at : {A : Type 0} (xs : List A) (i : ℕ) → i < length xs → (x : A) × (slice_get xs i ≡ Some x)
entry_at [] i lt = absurd (omega arith)
entry_at (x ∷ xs) zero lt = (x, refl)
entry_at (x ∷ xs) (suc i) lt = entry_at xs i (omega arith)

-- the closed position at a place
pub seen_at : (start : ℕ) (es : List Closed) (i : ℕ) → i < start → slice_get (seen_of start es) i ≡ slice_get es i
seen_at zero es i lt = absurd (omega arith)
seen_at (suc start) [] i lt = refl
seen_at (suc start) (e ∷ es) zero lt = refl
seen_at (suc start) (e ∷ es) (suc i) lt = seen_at start es i (omega arith)

-- what is put together so is taken apart so
pub joined : (start : ℕ) (es new : List Closed) (ws : List (OpenEntry Scene Push)) → start ≤ length es → new ≡ seen_of start es ++ map closed_entry ws →
    (seen_of start new ≡ seen_of start es) × (open_of start new ≡ ws) × IsFound start new
joined start es new ws within e = (
  front,
  waits,
  record {
    within = omega (arith, ap length e, length-append (seen_of start es) (map closed_entry ws), long);
    opened = ap (map closed_entry) waits ∙ sym back;
  },
)
  where
    long : length (seen_of start es) ≡ start
    long = length_seen start es within

    front : seen_of start new ≡ seen_of start es
    front = ap (take start) e ∙ ap (λ n. take n (seen_of start es ++ map closed_entry ws)) (sym long) ∙ take_front (seen_of start es) (map closed_entry ws)

    back : drop start new ≡ map closed_entry ws
    back = ap (drop start) e ∙ ap (λ n. drop n (seen_of start es ++ map closed_entry ws)) (sym long) ∙ drop_front (seen_of start es) (map closed_entry ws)

    waits : open_of start new ≡ ws
    waits = ap (map open_entry) back ∙ open_closed ws

-- ---- looking up

look_append : {X : Type 0} (m : Scene) (xs ys : List (Scene × X)) → lookup (same_scene m) xs ≡ None →
    lookup (same_scene m) (xs ++ ys) ≡ lookup (same_scene m) ys
look_append m [] ys e = refl
look_append m (x ∷ xs) ys e = grind (arith, look_append m xs ys)

look_front : {X : Type 0} (m : Scene) (xs ys : List (Scene × X)) (v : X) → lookup (same_scene m) xs ≡ Some v → lookup (same_scene m) (xs ++ ys) ≡ Some v
look_front m [] ys v e = absurd (none-some v e)
look_front m (x ∷ xs) ys v e = grind (arith, look_front m xs ys v)

-- the origin of a closed entry that was open
abbrev pub as_closed : Option (Origin Push) → Option (Option (Origin Push))
as_closed None = None
as_closed (Some o) = Some (Some o)

-- an entry that is open is found with its origin
look_open : (m : Scene) (ws : List (OpenEntry Scene Push)) → lookup (same_scene m) (map closed_entry ws) ≡ as_closed (origin_of ws m)
look_open m [] = refl
look_open m (w ∷ ws) = grind (arith, look_open m ws)

pub not_below : (i n : ℕ) → n ≤ i → ltb i n ≡ false
not_below i n le = grind (arith, nat_tests)

pub below : (i n : ℕ) → i < n → ltb i n ≡ true
below i n lt = grind (arith, nat_tests)

at_least : (test : Scene → Bool) (k i : ℕ) (xs : List Scene) → position_from test k xs ≡ Some i → k ≤ i
at_least test k i [] e = absurd (none-some i e)
at_least test k i (x ∷ xs) e = grind (arith, at_least test (k + 1) i xs)

-- where a key is found tells whether it is closed
placed_from : (m : Scene) (k i : ℕ) (es : List Closed) (start : ℕ) → position_from (same_scene m) k (keys_of es) ≡ Some i →
    is_some (lookup (same_scene m) (take start es)) ≡ ltb i (k + start)
placed_from m k i [] start e = absurd (none-some i e)
placed_from m k i (x ∷ es) zero e = sym (not_below i (k + 0) (omega (arith, at_least (same_scene m) k i (keys_of (x ∷ es)) e)))
placed_from m k i (x ∷ es) (suc start) e = grind (arith, placed_from m (k + 1) i es start)

pub placed : (m : Scene) (i start : ℕ) (es : List Closed) → position (same_scene m) (keys_of es) ≡ Some i →
    is_some (lookup (same_scene m) (seen_of start es)) ≡ ltb i start
placed m i start es e =
    let z : 0 + start ≡ start = omega arith in
    placed_from m 0 i es start (sym (position_from-zero (same_scene m) (keys_of es)) ∙ e) ∙ ap (ltb i) z

pub no_some : {X : Type 0} (o : Option X) → is_some o ≡ false → o ≡ None
no_some None e = refl
no_some (Some x) e = cc

-- what is looked up among all and is not closed is looked up among those that are open
pub look_rest : (m : Scene) (start : ℕ) (es : List Closed) → IsFound start es → lookup (same_scene m) (seen_of start es) ≡ None →
    lookup (same_scene m) es ≡ as_closed (origin_of (open_of start es) m)
look_rest m start es found none =
    ap (lookup (same_scene m)) (split start es found) ∙ look_append m (seen_of start es) (map closed_entry (open_of start es)) none ∙
    look_open m (open_of start es)

-- what is not there is not kept
pub absent_not_kept : (m : Scene) (o : Origin Push) (start : ℕ) (es : List Closed) → IsFound start es → lookup (same_scene m) es ≡ None →
    false ≡ keeps (seen_of start es) (open_of start es) m o
absent_not_kept m o start es found none = go (lookup (same_scene m) (seen_of start es)) refl (origin_of (open_of start es) m) refl
  where
    seen : List Closed
    seen = seen_of start es

    go : (a : Option (Option (Origin Push))) → lookup (same_scene m) (seen_of start es) ≡ a → (b : Option (Origin Push)) →
        origin_of (open_of start es) m ≡ b → false ≡ keeps (seen_of start es) (open_of start es) m o
    go (Some v) e b f = absurd (none-some v (sym none ∙ ap (lookup (same_scene m)) (split start es found) ∙
        look_front m (seen_of start es) (map closed_entry (open_of start es)) v e))
    go None e (Some p) f = absurd (none-some (Some p) (sym none ∙ look_rest m start es found e ∙ ap as_closed f))
    go None e None f = λ i. is_some (sym e i) || is_least (sym f i) o

-- what is there is kept if it is closed or its origin is no greater
pub there_kept : (m : Scene) (o : Origin Push) (start : ℕ) (es : List Closed) → IsFound start es → (i : ℕ) (v : Option (Origin Push)) (less : Bool) →
    position (same_scene m) (keys_of es) ≡ Some i → lookup (same_scene m) es ≡ Some v →
    ((p : Origin Push) → v ≡ Some p → less ≡ is_lt (origin_cmp push_cmp o p)) →
    (ltb i start || not less) ≡ keeps (seen_of start es) (open_of start es) m o
there_kept m o start es found i v less at is lesser = go (ltb i start) (placed m i start es at) (origin_of (open_of start es) m) refl
  where
    go : (b : Bool) → is_some (lookup (same_scene m) (seen_of start es)) ≡ b → (f : Option (Origin Push)) → origin_of (open_of start es) m ≡ f →
        (b || not less) ≡ keeps (seen_of start es) (open_of start es) m o
    go true e f g = ap (λ x. x || is_least (origin_of (open_of start es) m) o) (sym e)
    go false e None g =
        let rest = look_rest m start es found (no_some (lookup (same_scene m) (seen_of start es)) e) in
        absurd (none-some v (sym (rest ∙ ap as_closed g) ∙ is))
    go false e (Some p) g =
        let rest = look_rest m start es found (no_some (lookup (same_scene m) (seen_of start es)) e) in
        let same : v ≡ Some p = sym (same_Some (Some p) v (sym (rest ∙ ap as_closed g) ∙ is)) in
        ap not (lesser p same) ∙ (λ j. sym e j || is_least (sym g j) o)

-- what is among all is closed or is open
any_of : (m : Scene) (start : ℕ) (es : List Closed) → IsFound start es →
    is_some (lookup (same_scene m) es) ≡ (is_some (lookup (same_scene m) (seen_of start es)) || is_some (origin_of (open_of start es) m))
any_of m start es found = go (lookup (same_scene m) (seen_of start es)) refl (origin_of (open_of start es) m) refl
  where
    go : (a : Option (Option (Origin Push))) → lookup (same_scene m) (seen_of start es) ≡ a → (b : Option (Origin Push)) →
        origin_of (open_of start es) m ≡ b →
        is_some (lookup (same_scene m) es) ≡ (is_some (lookup (same_scene m) (seen_of start es)) || is_some (origin_of (open_of start es) m))
    go (Some v) e b f = ap is_some (ap (lookup (same_scene m)) (split start es found) ∙
        look_front m (seen_of start es) (map closed_entry (open_of start es)) v e) ∙ ap (λ x. is_some x || is_some (origin_of (open_of start es) m)) (sym e)
    go None e None f = ap is_some (look_rest m start es found e ∙ ap as_closed f) ∙ (λ i. is_some (sym e i) || is_some (sym f i))
    go None e (Some p) f = ap is_some (look_rest m start es found e ∙ ap as_closed f) ∙ (λ i. is_some (sym e i) || is_some (sym f i))

-- a position of the share is new where it is not among all and not among the successors before
pub new_is : (m : Scene) (start shares share : ℕ) (es : List Closed) → IsFound start es → (share_of shares m == share) ≡ true → (there among : Bool) →
    there ≡ is_some (lookup (same_scene m) es) →
    (not there && not among) ≡ (is_wanted_in (seen_of start es) shares share m && not (is_some (origin_of (open_of start es) m) || among))
new_is m start shares share es found mine there among e =
    ap (λ b. not b && not among) (e ∙ any_of m start es found) ∙
    by (is_some (lookup (same_scene m) (seen_of start es))) (is_some (origin_of (open_of start es) m)) among
    ∙ ap (λ b. (b && not (is_some (lookup (same_scene m) (seen_of start es)))) && not (is_some (origin_of (open_of start es) m) || among)) (sym mine)
  where
    by : (a b c : Bool) → (not (a || b) && not c) ≡ ((true && not a) && not (b || c))
    by true b c = refl
    by false true c = refl
    by false false c = refl

pub same_number : (x y : ℕ) → x ≡ y → (x == y) ≡ true
same_number x y e = grind (arith, nat_tests)

pub other_number : (x y : ℕ) → ¬ (x ≡ y) → (x == y) ≡ false
other_number x y e = grind (arith, nat_tests)

-- ---- entering

-- an offer that changes nothing leaves the open entries unchanged
pub let_in_kept : (seen : List Closed) (ws : List (OpenEntry Scene Push)) (m : Scene) (o : Origin Push) → true ≡ keeps seen ws m o → ws ≡ let_in seen ws (m, o)
let_in_kept seen ws m o e = grind (arith, offered-kept)

insert_open : (m : Scene) (o : Origin Push) (ws : List (OpenEntry Scene Push)) →
    insert_entry same_scene (map closed_entry ws) m (Some o) ≡ map closed_entry (insert_entry same_scene ws m o)
insert_open m o [] = refl
insert_open m o (w ∷ ws) = grind (arith, insert_open m o ws)

insert_past : (m : Scene) (o : Origin Push) (seen : List Closed) (ws : List (OpenEntry Scene Push)) → lookup (same_scene m) seen ≡ None →
    insert_entry same_scene (seen ++ map closed_entry ws) m (Some o) ≡ seen ++ map closed_entry (insert_entry same_scene ws m o)
insert_past m o [] ws e = insert_open m o ws
insert_past m o (x ∷ seen) ws e = grind (arith, insert_past m o seen ws)

-- one that changes something is inserted
pub let_in_put : (start : ℕ) (es new : List Closed) (m : Scene) (o : Origin Push) → IsFound start es → false ≡ keeps (seen_of start es) (open_of start es) m o →
    new ≡ insert_entry same_scene es m (Some o) → new ≡ seen_of start es ++ map closed_entry (let_in (seen_of start es) (open_of start es) (m, o))
let_in_put start es new m o found changes put = go (is_some (lookup (same_scene m) (seen_of start es))) refl changes (origin_of (open_of start es) m) refl
  where
    not_false : (b : Bool) → false ≡ not b → b ≡ true
    not_false true f = refl
    not_false false f = cc

    all : lookup (same_scene m) (seen_of start es) ≡ None → insert_entry same_scene (open_of start es) m o ≡ offered (open_of start es) m o →
        new ≡ seen_of start es ++ map closed_entry (offered (open_of start es) m o)
    all none e =
        put ∙ ap (λ xs. insert_entry same_scene xs m (Some o)) (split start es found) ∙ insert_past m o (seen_of start es) (open_of start es) none
        ∙ ap (λ ws. seen_of start es ++ map closed_entry ws) e

    wanted : is_some (lookup (same_scene m) (seen_of start es)) ≡ false → new ≡ seen_of start es ++ map closed_entry (offered (open_of start es) m o) →
        new ≡ seen_of start es ++ map closed_entry (let_in (seen_of start es) (open_of start es) (m, o))
    wanted e f = f ∙ (λ i. seen_of start es ++ map closed_entry (if (sym e i) then open_of start es else offered (open_of start es) m o))

    go : (b : Bool) → is_some (lookup (same_scene m) (seen_of start es)) ≡ b → false ≡ (b || is_least (origin_of (open_of start es) m) o) →
        (f : Option (Origin Push)) → origin_of (open_of start es) m ≡ f →
        new ≡ seen_of start es ++ map closed_entry (let_in (seen_of start es) (open_of start es) (m, o))
    go true e t f g = cc
    go false e t None g = wanted e (all (no_some (lookup (same_scene m) (seen_of start es)) e) (offered_first (open_of start es) m o g))
    go false e t (Some p) g = wanted e (all (no_some (lookup (same_scene m) (seen_of start es)) e)
        (offered-less (open_of start es) m o p g (not_false (is_lt (origin_cmp push_cmp o p)) (t ∙ ap (λ x. is_least x o) g))))

-- ---- the keys of those that are open

keys_open : (es : List Closed) → map (λ (e : OpenEntry Scene Push). e.0) (map open_entry es) ≡ keys_of es
keys_open [] = refl
keys_open (e ∷ es) = ap (λ ks. e.0 ∷ ks) (keys_open es)

-- they are distinct since all keys are
pub open_distinct : (start : ℕ) (es : List Closed) → IsDistinct same_scene (keys_of es) →
    IsDistinct same_scene (map (λ (e : OpenEntry Scene Push). e.0) (open_of start es))
open_distinct zero [] distinct = distinct
open_distinct zero (e ∷ es) distinct = subst (IsDistinct same_scene) (sym (keys_open (e ∷ es))) distinct
open_distinct (suc start) [] distinct = distinct
open_distinct (suc start) (e ∷ es) distinct = open_distinct start es (IsDistinct-tail same_scene e.0 (keys_of es) distinct)

-- one more entry that is open
pub open_more : (start place : ℕ) (es : List Closed) (e : Closed) → start ≤ place → slice_get es place ≡ Some e →
    open_of start (take (suc place) es) ≡ open_of start (take place es) ++ open_entry e ∷ []
open_more start place es e le at = ap (map open_entry) (copied_more es start place e le at) ∙ map-push open_entry (drop start (take place es)) e

pub open_none : (start : ℕ) (es : List Closed) → open_of start (take start es) ≡ []
open_none zero [] = refl
open_none zero (e ∷ es) = refl
open_none (suc start) [] = refl
open_none (suc start) (e ∷ es) = open_none start es

-- ---- closing

-- what rises already is closed as it stands
pub risen : (start : ℕ) (es : List Closed) → IsFound start es → IsDistinct same_scene (keys_of es) → RiseByOrigin (open_of start es) →
    IsSortedAppend (seen_of start es) (open_of start es) es
risen start es found distinct rise = (
  open_of start es,
  (refl, λ m. refl, distinct_from (map (λ (e : OpenEntry Scene Push). e.0) (open_of start es)) (open_distinct start es distinct)),
  rise,
  split start es found,
)
