-- The open entries are brought into the order of its origins, by exchanges of two.
use Rattle.std.proofs.Common.{◌≡◌, ◌≢◌, ℕ, zero, suc, ◌+◌, ◌-◌, ◌<◌, ◌≤◌, add-one, List, [], ◌∷◌, ◌++◌, length, map, take, drop, set, get_or}
use Rattle.std.proofs.Common.{IsPermutation, Some, refl, sym, ap, subst, ◌∙◌, inl, inr, arith}
use Rattle.std.proofs.lemmas.Bool.{cases_eq, cases_lt}
use Rattle.std.proofs.lemmas.Bool.Decides.{nat_tests}
use Rattle.std.proofs.lemmas.List.{length-map, length-append, length-set, length-drop, length-take-le}
use Rattle.std.proofs.lemmas.List.Edits.{length-swap}
use Rattle.std.proofs.lemmas.List.Sorted.{length_permutation, IsPermutation-map, IsPermutation-sym}
use Rattle.std.proofs.lemmas.Option.{same_Some, slice_get-get_or, slice_get_within, get_or_from_slice_get, none-some}
use Rattle.std.specs.Prelude.{slice_get}
use Rattle.std.specs.List.{IsDistinct, swap}
use Rattle.std.specs.Map.{keys_of}
use Rattle.std.specs.Ordering.{is_gt}
use Rattle.indexmap.proofs.ReorderLemmas.{exchange, exchange-within, exchange-twice, get_or-swap}
use Rattle.grid.specs.declared.dir.Dir.TheVariants.{D}
use Rattle.grid.specs.declared.square.Push.{Push}
use Rattle.grid.specs.Board.{Scene, push_cmp}
use Rattle.store.specs.Entries.{Origin, OpenEntry, origin_cmp, same_scene, Closed}
use Rattle.store.specs.Entering.{closed_entry, RiseByOrigin, IsSortedAppend}
use Rattle.store.specs.FoundView.{IsFound, open_of, open_entry, origin_in, seen_of}
use Rattle.store.specs.inside.Placing.{Row, rows_of, RowsRise, HaveAllPlaces, AreTargets, AreApart, AreAtTargets}
use Rattle.store.proofs.lemmas.Closings.{moved, reordered}
use Rattle.successors.proofs.lemmas.Lists.{at_map, map_at, set_here, set_there}
use Rattle.store.proofs.Tails.{entry_at, open_distinct, open_more, split}

-- ---- lists by their places

same_by_places : {A : Type 0} (xs ys : List A) → length xs ≡ length ys → ((i : ℕ) → i < length xs → slice_get xs i ≡ slice_get ys i) → xs ≡ ys
same_by_places [] [] long at = refl
same_by_places [] (y ∷ ys) long at = absurd (omega (arith, long))
same_by_places (x ∷ xs) [] long at = absurd (omega (arith, long))
same_by_places (x ∷ xs) (y ∷ ys) long at =
    let first : x ≡ y = same_Some x y (at zero (omega arith)) in
    let rest : xs ≡ ys = same_by_places xs ys (omega (arith, long)) (λ i lt. at (suc i) (omega (arith, lt))) in
    λ i. first i ∷ rest i

at_front : {A : Type 0} (start : ℕ) (xs ys : List A) (i : ℕ) → start ≤ length xs → i < start → slice_get (take start xs ++ ys) i ≡ slice_get xs i
at_front zero xs ys i le lt = absurd (omega (arith, lt))
at_front (suc start) [] ys i le lt = absurd (omega (arith, le))
at_front (suc start) (x ∷ xs) ys zero le lt = refl
at_front (suc start) (x ∷ xs) ys (suc i) le lt = at_front start xs ys i (omega (arith, le)) (omega (arith, lt))

at_back : {A : Type 0} (start : ℕ) (xs ys : List A) (i x : ℕ) → start ≤ length xs → i ≡ start + x → slice_get (take start xs ++ ys) i ≡ slice_get ys x
at_back zero [] ys i x le e = ap (slice_get ys) (omega (arith, e))
at_back zero (z ∷ xs) ys i x le e = ap (slice_get ys) (omega (arith, e))
at_back (suc start) [] ys i x le e = absurd (omega (arith, le))
at_back (suc start) (z ∷ xs) ys zero x le e = absurd (omega (arith, e))
at_back (suc start) (z ∷ xs) ys (suc i) x le e = at_back start xs ys i x (omega (arith, le)) (omega (arith, e))

length_front : {A : Type 0} (start : ℕ) (xs : List A) → start ≤ length xs → length (take start xs) ≡ start
length_front zero [] le = refl
length_front zero (x ∷ xs) le = refl
length_front (suc start) [] le = absurd (omega (arith, le))
length_front (suc start) (x ∷ xs) le = ap suc (length_front start xs (omega (arith, le)))

-- ---- one exchange

exchanged_at : {A : Type 0} (xs : List A) (a b i : ℕ) → a < length xs → b < length xs → i < length xs →
    slice_get (swap xs a b) i ≡ slice_get xs (exchange a b i)
exchanged_at {A} xs a b i p q lt =
    let within = exchange-within a b (length xs) i p q lt in
    let x : A = (entry_at xs (exchange a b i) within).0 in
    slice_get-get_or (swap xs a b) i x (omega (arith, lt, length-swap xs a b)) ∙ ap (λ (y : A). Some y) (get_or-swap xs a b x p q i) ∙
    sym (slice_get-get_or xs (exchange a b i) x within)

at-exchanged : {A : Type 0} (xs : List A) (a b i : ℕ) (x : A) → a < length xs → b < length xs → slice_get (swap xs a b) i ≡ Some x →
    slice_get xs (exchange a b i) ≡ Some x
at-exchanged xs a b i x p q at = sym (exchanged_at xs a b i p q (omega (arith, slice_get_within (swap xs a b) i x at, length-swap xs a b))) ∙ at

exchange_past : (start a b x : ℕ) → exchange (start + a) (start + b) (start + x) ≡ start + exchange a b x
exchange_past start a b x = grind (arith, nat_tests)

exchange_else : (a b i : ℕ) → i ≢ a → i ≢ b → exchange a b i ≡ i
exchange_else a b i n m = grind (arith, nat_tests)

-- ---- exchanges, until each entry is at its target

-- the entries were brought from before to now, and their targets with them; those before the place are at theirs
pub record IsExchanged (start : ℕ) (before : List Closed) (aims : List ℕ) (now : List Closed) (targets : List ℕ) (place : ℕ) : Type 0 where
  pub all : length now ≡ start + length targets
  pub long : (length now ≡ length before) × (length targets ≡ length aims)
  pub front : (i : ℕ) → i < start → slice_get now i ≡ slice_get before i
  pub apart : AreApart targets
  pub aimed : (others : List Closed) → AreAtTargets start before aims others → AreAtTargets start now targets others
  pub fixed : (x : ℕ) → x < place → slice_get targets x ≡ Some x
  pub within : place ≤ length targets

-- one that is not
module _ (start : ℕ) (before : List Closed) (aims : List ℕ) (now : List Closed) (targets : List ℕ) (place target : ℕ)
    (is : IsExchanged start before aims now targets place) (at : slice_get targets place ≡ Some target) (ne : target ≢ place) where
  here : place < length targets
  here = slice_get_within targets place target at

  there : target < length targets
  there = is.apart.inside place target at

  -- what has a target had it at the other place
  had : (x t : ℕ) → slice_get (swap targets place target) x ≡ Some t → slice_get targets (exchange place target x) ≡ Some t
  had x t to = at-exchanged targets place target x t here there to

  x_within : (x t : ℕ) → slice_get (swap targets place target) x ≡ Some t → x < length targets
  x_within x t to = omega (arith, slice_get_within (swap targets place target) x t to, length-swap targets place target)

  -- those before the place are neither
  earlier : (x : ℕ) → x < place → exchange place target x ≡ x
  earlier x lt = exchange_else place target x (λ e. omega (arith, lt, e))
      (λ (e : x ≡ target). ne (is.apart.apart target place target (ap (slice_get targets) (sym e) ∙ is.fixed x lt ∙ ap (λ (n : ℕ). Some n) e) at))

  pub one_exchanged : IsExchanged start before aims (swap now (start + place) (start + target)) (swap targets place target) place
  one_exchanged = record {
    all = omega (arith, is.all, length-swap now (start + place) (start + target), length-swap targets place target);
    long = (omega (arith, is.long.0, length-swap now (start + place) (start + target)), omega (arith, is.long.1, length-swap targets place target));
    front = λ i lt. exchanged_at now (start + place) (start + target) i (omega (arith, is.all, here)) (omega (arith, is.all, there)) (omega (arith, is.all, lt))
        ∙ ap (slice_get now) (exchange_else (start + place) (start + target) i (λ e. omega (arith, lt, e)) (λ e. omega (arith, lt, e))) ∙ is.front i lt;
    apart = record {
      inside = λ x t to. omega (arith, is.apart.inside (exchange place target x) t (had x t to), length-swap targets place target);
      apart = λ x y t to_x to_y. (let e = is.apart.apart (exchange place target x) (exchange place target y) t (had x t to_x) (had y t to_y) in
          sym (exchange-twice place target x) ∙ ap (exchange place target) e ∙ exchange-twice place target y);
    };
    aimed = λ others put. (let old = is.aimed others put in (
      old.0 ∙ sym (length-swap targets place target),
      λ x t to. exchanged_at now (start + place) (start + target) (start + x) (omega (arith, is.all, here)) (omega (arith, is.all, there))
          (omega (arith, is.all, x_within x t to))
          ∙ ap (slice_get now) (exchange_past start place target x) ∙ old.1 (exchange place target x) t (had x t to),
    ));
    fixed = λ x lt. exchanged_at targets place target x here there (omega (arith, lt, here)) ∙ ap (slice_get targets) (earlier x lt) ∙ is.fixed x lt;
    within = omega (arith, is.within, length-swap targets place target);
  }

-- where all are at their targets
pub all_exchanged : (start : ℕ) (before : List Closed) (aims : List ℕ) (now : List Closed) (targets : List ℕ) (place : ℕ) → start ≤ length before →
    IsExchanged start before aims now targets place → length targets ≤ place →
    (others : List Closed) → AreAtTargets start before aims others → now ≡ seen_of start before ++ others
all_exchanged start before aims now targets place le is end others put =
    same_by_places now (take start before ++ others) (omega (arith, is.all, new.0, length-append (take start before) others, length_front start before le))
    (λ i lt. by i lt)
  where
    new : AreAtTargets start now targets others
    new = is.aimed others put

    by : (i : ℕ) → i < length now → slice_get now i ≡ slice_get (take start before ++ others) i
    by i lt = elim (cases_lt i start) [
      | inl less ↦ is.front i less ∙ sym (at_front start before others i le less)
      | inr more ↦ (let w = beyond start i more in
          ap (slice_get now) w.1 ∙ new.1 w.0 w.0 (is.fixed w.0 (omega (arith, w.1, lt, is.all, end))) ∙ sym (at_back start before others i w.0 le w.1))
    ]
      where
        beyond : (s i : ℕ) → s ≤ i → (x : ℕ) × (i ≡ s + x)
        beyond zero i more = (i, omega arith)
        beyond (suc s) zero more = absurd (omega (arith, more))
        beyond (suc s) (suc i) more = let w = beyond s i (omega (arith, more)) in (w.0, omega (arith, w.1))

-- ---- rows

pub length-rows : (k : ℕ) (ws : List (OpenEntry Scene Push)) → length (rows_of k ws) ≡ length ws
length-rows k [] = refl
length-rows k (w ∷ ws) = ap suc (length-rows (suc k) ws)

pub rows-push : (k : ℕ) (ws : List (OpenEntry Scene Push)) (w : OpenEntry Scene Push) → rows_of k (ws ++ w ∷ []) ≡ rows_of k ws ++ (w.1, k + length ws) ∷ []
rows-push k [] w = let e : k ≡ k + 0 = omega arith in λ i. (w.1, e i) ∷ []
rows-push k (v ∷ ws) w = grind (arith, rows-push (suc k) ws w)

rows_at : (k : ℕ) (ws : List (OpenEntry Scene Push)) (i p : ℕ) (w : OpenEntry Scene Push) → slice_get ws i ≡ Some w → p ≡ k + i →
    slice_get (rows_of k ws) i ≡ Some (w.1, p)
rows_at k [] i p w at e = absurd (none-some w at)
rows_at k (v ∷ ws) zero p w at e = let f : k ≡ p = omega (arith, e) in let same = same_Some v w at in λ i. Some ((same i).1, f i)
rows_at k (v ∷ ws) (suc i) p w at e = rows_at (suc k) ws i p w at (omega (arith, e))

at_rows : (ws : List (OpenEntry Scene Push)) (i : ℕ) (r : Row) → slice_get (rows_of 0 ws) i ≡ Some r →
    (w : OpenEntry Scene Push) × (slice_get ws i ≡ Some w) × (r ≡ (w.1, i))
at_rows ws i r at =
    let w = entry_at ws i (omega (arith, slice_get_within (rows_of 0 ws) i r at, length-rows 0 ws)) in
    (w.0, w.1, same_Some r (w.0.1, i) (sym at ∙ rows_at 0 ws i i w.0 w.1 (omega arith)))

module _ (ws : List (OpenEntry Scene Push)) (rows : List Row) (same : IsPermutation (rows_of 0 ws) rows) where
  as_many : length rows ≡ length ws
  as_many = length_permutation (rows_of 0 ws) rows same ∙ length-rows 0 ws

  -- a row tells an entry's origin and its place
  row_tells : (i : ℕ) (r : Row) → slice_get rows i ≡ Some r → (w : OpenEntry Scene Push) × (slice_get ws r.1 ≡ Some w) × (r.0 ≡ w.1)
  row_tells i r at =
      let there = moved r rows (rows_of 0 ws) (IsPermutation-sym (rows_of 0 ws) rows same) (i, at) in
      let w = at_rows ws there.0 r there.1 in
      let place : r.1 ≡ there.0 = ap (λ (q : Row). q.1) w.2 in
      (w.0, ap (slice_get ws) place ∙ w.1, ap (λ (q : Row). q.0) w.2)

  pub all_places : HaveAllPlaces rows
  all_places = record {
    inside = λ i r at. (let w = row_tells i r at in omega (arith, as_many, slice_get_within ws r.1 w.0 w.1));
    whole = λ x lt. (let w = entry_at ws x (omega (arith, lt, as_many)) in
        let r : Row = (w.0.1, x) in
        let there = moved r (rows_of 0 ws) rows same (x, rows_at 0 ws x x w.0 w.1 (omega arith)) in
        (there.0, r, there.1, refl));
  }

  -- the entries in the order of the rows
  abbrev nowhere : OpenEntry Scene Push
  nowhere = (record { boxes = []; player = 0 }, (0, record { square = 0; dir = D }))

  abbrev entry_of : Row → OpenEntry Scene Push
  entry_of r = get_or ws r.1 nowhere

  abbrev by_rows : List (OpenEntry Scene Push)
  by_rows = map entry_of rows

  entry_is : (i : ℕ) (r : Row) → slice_get rows i ≡ Some r → (slice_get ws r.1 ≡ Some (entry_of r)) × ((entry_of r).1 ≡ r.0)
  entry_is i r at = grind (arith, row_tells, get_or_from_slice_get)

  same_entries : IsPermutation ws by_rows
  same_entries = subst (λ vs. IsPermutation vs by_rows) (same_by_places (map entry_of (rows_of 0 ws)) ws (length-map (rows_of 0 ws) entry_of ∙
      length-rows 0 ws) (λ i lt. by i (omega (arith, lt, length-map (rows_of 0 ws) entry_of, length-rows 0 ws))))
      (IsPermutation-map entry_of (rows_of 0 ws) rows same)
    where
      by : (i : ℕ) → i < length ws → slice_get (map entry_of (rows_of 0 ws)) i ≡ slice_get ws i
      by i lt =
          let w = entry_at ws i lt in
          map_at entry_of (rows_of 0 ws) i (w.0.1, i) (rows_at 0 ws i i w.0 w.1 (omega arith)) ∙
          ap (λ (v : OpenEntry Scene Push). Some v) (get_or_from_slice_get ws i w.0 nowhere w.1) ∙ sym w.1

  entries_rise : RowsRise rows → RiseByOrigin by_rows
  entries_rise rise i j x y lt at_i at_j =
      let a = at_map entry_of rows i x at_i in let b = at_map entry_of rows j y at_j in
      let e : x.1 ≡ a.0.0 = ap (λ (v : OpenEntry Scene Push). v.1) (sym a.2) ∙ (entry_is i a.0 a.1).1 in
      let f : y.1 ≡ b.0.0 = ap (λ (v : OpenEntry Scene Push). v.1) (sym b.2) ∙ (entry_is j b.0 b.1).1 in
      (λ n. is_gt (origin_cmp push_cmp (e n) (f n))) ∙ rise i j a.0 b.0 lt a.1 b.1

pub apart_targets : (rows : List Row) (targets : List ℕ) → AreTargets rows targets → AreApart targets
apart_targets rows targets are = grind (arith, slice_get_within, same_Some)

-- one more row
pub one_row : (start place : ℕ) (es : List Closed) (rows more : List Row) (o : Origin Push) → start ≤ place → place < length es →
    rows ≡ rows_of 0 (open_of start (take place es)) → ((e : Closed) → slice_get es place ≡ Some e → o ≡ origin_in e.1) →
    more ≡ rows ++ (o, place - start) ∷ [] → more ≡ rows_of 0 (open_of start (take (place + 1) es))
one_row start place es rows more o le lt before origin put =
    let w = entry_at es place lt in
    let e : Closed = w.0 in
    let ws : List (OpenEntry Scene Push) = open_of start (take place es) in
    let count : place - start ≡ 0 + length ws = omega
    (arith, length-map (drop start (take place es)) open_entry, length-drop start (take place es), length-take-le place es (omega (arith, lt))) in
    put ∙ (λ i. before i ++ (origin e w.1 i, count i) ∷ []) ∙ sym (rows-push 0 ws (open_entry e)) ∙ ap (rows_of 0) (sym (open_more start place es e le w.1)) ∙
    ap (λ k. rows_of 0 (open_of start (take k es))) (sym (add-one place))

-- ---- targets

-- each row before the place has a target where a row with its place stands
pub record AreTargetsSoFar (rows : List Row) (place : ℕ) (targets : List ℕ) : Type 0 where
  pub long : length targets ≡ length rows
  pub far : (i : ℕ) (r : Row) → i < place → slice_get rows i ≡ Some r →
      (t : ℕ) × (q : Row) × (slice_get targets r.1 ≡ Some t) × (slice_get rows t ≡ Some q) × (q.1 ≡ r.1)

pub one_target : (rows : List Row) (place : ℕ) (targets : List ℕ) (row : Row) → AreTargetsSoFar rows place targets → slice_get rows place ≡ Some row →
    row.1 < length rows → AreTargetsSoFar rows (suc place) (set targets row.1 place)
one_target rows place targets row before at lt =
    grind (arith, length-set, cases_eq, cases_lt, set_there, same_Some, set_here)

pub all_targets : (rows : List Row) (place : ℕ) (targets : List ℕ) → HaveAllPlaces rows → AreTargetsSoFar rows place targets → length rows ≤ place →
    AreTargets rows targets
all_targets rows place targets have are end = (
  are.long,
  λ x t at. (let w = have.whole x (omega (arith, are.long, slice_get_within targets x t at)) in
      let v = are.far w.0 w.1 (omega (arith, end, slice_get_within rows w.0 w.1 w.2)) w.2 in
      let same : v.0 ≡ t = same_Some v.0 t (sym v.2 ∙ ap (slice_get targets) w.3 ∙ at) in
      (v.1, ap (slice_get rows) (sym same) ∙ v.3, v.4 ∙ w.3)),
)

-- there are as many rows and targets as open entries
pub counted : (start : ℕ) (es : List Closed) (rows : List Row) (targets : List ℕ) → IsFound start es → IsPermutation (rows_of 0 (open_of start es)) rows →
    AreTargets rows targets → length es ≡ start + length targets
counted start es rows targets found same are = omega
    (arith, found.within, are.0, as_many (open_of start es) rows same, length-map (drop start es) open_entry, length-drop start es)

-- ---- a close

pub put_in_order : (start : ℕ) (es : List Closed) (rows : List Row) (targets : List ℕ) (new : List Closed) → IsFound start es →
    IsDistinct same_scene (keys_of es) → IsPermutation (rows_of 0 (open_of start es)) rows → RowsRise rows → AreTargets rows targets →
    ((others : List Closed) → AreAtTargets start es targets others → new ≡ seen_of start es ++ others) →
    IsSortedAppend (seen_of start es) (open_of start es) new
put_in_order start es rows targets new found distinct same rise are put = (
  ys,
  reordered ws ys (open_distinct start es distinct) (same_entries ws rows same),
  entries_rise ws rows same rise,
  put (map closed_entry ys) (long, aimed),
)
  where
    ws : List (OpenEntry Scene Push)
    ws = open_of start es

    ys : List (OpenEntry Scene Push)
    ys = by_rows ws rows same

    long : length (map closed_entry ys) ≡ length targets
    long = length-map ys closed_entry ∙ length-map rows (entry_of ws rows same) ∙ sym are.0

    aimed : (x t : ℕ) → slice_get targets x ≡ Some t → slice_get es (start + x) ≡ slice_get (map closed_entry ys) t
    aimed x t at =
        let w = are.1 x t at in
        let entry : OpenEntry Scene Push = entry_of ws rows same w.0 in
        let here : slice_get ws x ≡ Some entry = ap (slice_get ws) (sym w.2) ∙ (entry_is ws rows same t w.0 w.1).0 in
        ap (λ xs. slice_get xs (start + x)) (split start es found) ∙ at_back start es (map closed_entry ws) (start + x) x found.within refl ∙
        map_at closed_entry ws x entry here
        ∙ sym (map_at closed_entry ys t entry (map_at (entry_of ws rows same) rows t w.0 w.1))
