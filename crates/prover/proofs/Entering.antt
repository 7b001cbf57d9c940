-- How positions enter, over plain lists.
use Rattle.std.proofs.Common.{◌≡◌, ℕ, zero, suc, ◌+◌, ◌-◌, ◌*◌, ◌≤◌, ◌<◌, List, [], ◌∷◌, ◌++◌, length, Option, None}
use Rattle.std.proofs.Common.{Some, inl, inr, refl, sym, ap, subst, ◌∙◌, arith, set, Bool, true, false, cond, nat_lt}
use Rattle.std.proofs.lemmas.Bool.{cases_eq, ltb-true, ltb-false}
use Rattle.std.proofs.lemmas.List.{length-append, length-set}
use Rattle.std.proofs.lemmas.Option.{none-some, same_Some, slice_get_within}
use Rattle.std.specs.Prelude.{slice_get, ◌^◌}
use Rattle.store.specs.Visited.{Node, HasEntered, IsNew, with_least}
use Rattle.successors.proofs.lemmas.Lists.{at-push, at_before, at_seam, set_at, set_here, set_there}
use Rattle.prover.specs.declared.pushing.Expanded.{Expanded}
use Rattle.prover.specs.inside.Working.{Enters, GetsOn, HasLeastAt, IsLater, IsWaiting, KeepPlaces, StayBelow}
use Rattle.prover.specs.inside.Working.{openness, turns, turns_left}
use Rattle.prover.proofs.Openings.{kept_then}

-- ---- places

-- an entry gives its place to one of the same position with no more pushes, and all positions keep their places
pub kept_set : (old : List Node) (place : ℕ) (x y : Node) → slice_get old place ≡ Some x → x.position ≡ y.position →
    y.pushes ≤ x.pushes → KeepPlaces old (set old place y)
kept_set old place x y here same few i z there = elim (cases_eq i place) [
  | inl eq ↦ (let e : z ≡ x = same_Some z x (sym there ∙ (ap (λ (k : ℕ). slice_get old k) eq ∙ here)) in (
    y,
    ap (λ (k : ℕ). slice_get (set old place y) k) eq ∙ set_here old place y (slice_get_within old place x here),
    sym same ∙ ap (λ (w : Node). w.position) (sym e),
    (let f = ap (λ (w : Node). w.pushes) e in omega (arith, f, few)),
  ))
  | inr ne ↦ (z, set_there old place i y ne ∙ there, refl, omega arith)
]

-- ---- turns

turns_added : (xs : List Node) (y : Node) → turns (xs ++ y ∷ []) ≡ turns xs + (4294967297 * y.pushes + openness y.least)
turns_added [] y = omega arith
turns_added (x ∷ xs) y = let e = turns_added xs y in omega (arith, e)

turns_set : (xs : List Node) (i : ℕ) (x y : Node) → slice_get xs i ≡ Some x →
    turns (set xs i y) + (4294967297 * x.pushes + openness x.least) ≡
    turns xs + (4294967297 * y.pushes + openness y.least)
turns_set [] i x y e = absurd (none-some x e)
turns_set (z ∷ xs) zero x y e =
    let p = ap (λ (w : Node). w.pushes) (same_Some z x e) in
    let o = ap (λ (w : Node). openness w.least) (same_Some z x e) in
    omega (arith, p, o)
turns_set (z ∷ xs) (suc i) x y e = let f = turns_set xs i x y e in omega (arith, f)

few_open : (o : Option ℕ) → openness o ≤ 4294967296
few_open None = omega arith
few_open (Some n) = omega arith

pub same_turns : (old new : List Node) → new ≡ old → GetsOn old new
same_turns old new e = subst (λ (xs : List Node). GetsOn old xs) (sym e)
    (record { still = λ i x at. (x, at, refl, omega arith); more = omega arith; turns = λ limit le. omega arith })

added_turns : (old : List Node) (y : Node) → y.pushes ≤ length old → GetsOn old (old ++ y ∷ [])
added_turns old y few =
    let long = length-append old (y ∷ []) in record {
      still = λ i x at. (x, at_before old (y ∷ []) i x at, refl, omega arith);
      more = omega (arith, long);
      turns = λ limit le.
          (let sum = turns_added old y in
          let one = few_open y.least in
          let step : (limit - length old) * (4294967297 * limit + 4294967297) ≡
          (limit - length (old ++ y ∷ [])) * (4294967297 * limit + 4294967297) + (4294967297 * limit + 4294967297) =
          one_less limit (length old) (length (old ++ y ∷ [])) (omega (arith, long)) le in
          omega (arith, sum, one, step, few, long, le));
    }
  where
    one_less : (limit n m : ℕ) → m ≡ suc n → m ≤ limit →
        (limit - n) * (4294967297 * limit + 4294967297) ≡
        (limit - m) * (4294967297 * limit + 4294967297) + (4294967297 * limit + 4294967297)
    one_less limit n m e le =
        let f : limit - n ≡ suc (limit - m) = omega (arith, e, le) in
        ap (λ (k : ℕ). k * (4294967297 * limit + 4294967297)) f ∙ omega arith

-- a write that lessens an entry lessens the turns
fewer_turns : (old : List Node) (i limit : ℕ) (x y : Node) → slice_get old i ≡ Some x →
    4294967297 * y.pushes + openness y.least < 4294967297 * x.pushes + openness x.least →
    turns_left limit (set old i y) < turns_left limit old
fewer_turns old i limit x y at less =
    let sum = turns_set old i x y at in
    let long = length-set old i y in
    let same : (limit - length (set old i y)) * (4294967297 * limit + 4294967297)
    ≡ (limit - length old) * (4294967297 * limit + 4294967297) =
    ap (λ (k : ℕ). (limit - k) * (4294967297 * limit + 4294967297)) long in
    omega (arith, sum, same, less)

-- ---- a position enters

entered_new : (old : List Node) (e : Node) → IsNew old e.position → Enters old (old ++ e ∷ []) e
entered_new old e fresh = record {
  still = λ i x at. (x, at_before old (e ∷ []) i x at, refl, omega arith);
  below = λ i x at le. at_before old (e ∷ []) i x at;
  found = (length old, e, at_seam old e, refl, omega arith);
  each = λ i z at. elim (at-push old e i z at) [
    | inl h ↦ inl h
    | inr (p, q) ↦ inr q
  ];
  few = λ low few i z at. (let long = length-append old (e ∷ []) in elim (at-push old e i z at) [
    | inl h ↦ (let lt = few i z h in omega (arith, lt, long))
    | inr (p, q) ↦ (let same = ap (λ (w : Node). w.pushes) q in omega (arith, low, long, same))
  ]);
  goes_on = λ low. added_turns old e low;
}

-- one with as few pushes has the position already
entered_before : (old : List Node) (e x : Node) (i : ℕ) → slice_get old i ≡ Some x → x.position ≡ e.position →
    x.pushes ≤ e.pushes → Enters old old e
entered_before old e x i at same le = record {
  still = λ j y there. (y, there, refl, omega arith);
  below = λ j y there few. there;
  found = (i, x, at, same, le);
  each = λ j y there. inl there;
  few = λ low few. few;
  goes_on = λ low. same_turns old old refl;
}

-- it was found with more pushes
entered_again : (old : List Node) (e x : Node) (i : ℕ) → slice_get old i ≡ Some x → x.position ≡ e.position →
    e.pushes < x.pushes → Enters old (set old i e) e
entered_again old e x i at same lt = record {
  still = kept;
  below = λ j z there few. elim (cases_eq j i) [
    | inl eq ↦ absurd (let here : z ≡ x = same_Some z x (sym there ∙ (ap (λ (k : ℕ). slice_get old k) eq ∙ at)) in
        let p = ap (λ (w : Node). w.pushes) here in omega (arith, lt, few, p))
    | inr ne ↦ set_there old i j e ne ∙ there
  ];
  found = (i, e, set_here old i e (slice_get_within old i x at), refl, omega arith);
  each = λ j z there. elim (set_at old i j e z there) [
    | inl (p, q) ↦ inr q
    | inr (p, q) ↦ inl q
  ];
  few = λ low few j z there. (let long = length-set old i e in elim (set_at old i j e z there) [
    | inl (p, q) ↦
        (let same = ap (λ (w : Node). w.pushes) q in let less = few i x at in omega (arith, lt, less, same, long))
    | inr (p, q) ↦ (let less = few j z q in omega (arith, less, long))
  ]);
  goes_on = λ low. (let long = length-set old i e in let one = few_open e.least in record {
    still = kept;
    more = omega (arith, long);
    turns = λ limit le. (let less = fewer_turns old i limit x e at (omega (arith, lt, one)) in omega (arith, less));
  });
}
  where
    kept : KeepPlaces old (set old i e)
    kept = kept_set old i x e at same (omega (arith, lt))

pub entered : (old new : List Node) (e : Node) (place : Option ℕ) → HasEntered old new e place → Enters old new e
entered old new e (Some i) (inl (end, is, fresh)) =
    subst (λ (xs : List Node). Enters old xs e) (sym is) (entered_new old e fresh)
entered old new e (Some i) (inr (x, at, same, lt, is)) =
    subst (λ (xs : List Node). Enters old xs e) (sym is) (entered_again old e x i at same lt)
entered old new e None (is, (i, x, at, same, le)) =
    subst (λ (xs : List Node). Enters old xs e) (sym is) (entered_before old e x i at same le)

-- ---- a search goes on

pub goes_then : (first second third : List Node) → GetsOn first second → GetsOn second third → GetsOn first third
goes_then first second third one two =
    let a = one.more in
    let b = two.more in record {
      still = kept_then first second third one.still two.still;
      more = omega (arith, a, b);
      turns = λ limit le.
          (let p = one.turns limit (omega (arith, b, le)) in let q = two.turns limit le in omega (arith, p, q));
    }

-- what waits to be expanded still waits when the positions that it leads to have entered
pub waits_on : (old new : List Node) (from : Expanded) → StayBelow (suc from.pushes) old new → IsWaiting old from →
    IsWaiting new from
waits_on old new from below waits = record {
  entry = waits.entry;
  least = waits.least;
  at = (let count = waits.count in below from.place waits.entry waits.at (omega (arith, count)));
  same = waits.same;
  count = waits.count;
  is_open = waits.is_open;
  near = waits.near;
}

module _ (cap : Option ℕ) (first second third : List Node) (from : Expanded) (next : Option ℕ)
    (range : from.reach < 2 ^ 32) (on : GetsOn first second) (waits : IsWaiting second from)
    (later : IsLater cap from.reach next) (has : HasLeastAt second from.place next third) where
  abbrev x : Node
  x = waits.entry

  abbrev y : Node
  y = with_least next x

  long : length third ≡ length second
  long = ap (λ (xs : List Node). length xs) (has x waits.at) ∙ length-set second from.place y

  -- it is closed or has a greater least total, so that fewer turns are left
  pub turns_expanded : (limit : ℕ) → length third ≤ limit → turns_left limit third < turns_left limit first
  turns_expanded limit le =
      let less = subst (λ (o : Option ℕ). openness next < openness o) (sym waits.is_open) (by next later) in
      let fewer = fewer_turns second from.place limit x y waits.at (omega (arith, less)) in
      let before = on.turns limit (omega (arith, long, le)) in
      let same = ap (λ (xs : List Node). turns_left limit xs) (has x waits.at) in
      omega (arith, fewer, before, same)
    where
      by : (o : Option ℕ) → IsLater cap from.reach o → openness o < openness (Some waits.least)
      by None later = let near = waits.near in omega (arith, range, near)
      by (Some n) later = let lt = (later n refl).0 in let near = waits.near in omega (arith, range, near, lt)

  pub goes_expanded : GetsOn first third
  goes_expanded = record {
    still =
        kept_then first second third on.still (subst (λ (xs : List Node). KeepPlaces second xs) (sym (has x waits.at))
        (kept_set second from.place x y waits.at refl (omega arith)));
    more = (let more = on.more in omega (arith, long, more));
    turns = λ limit le. (let less = turns_expanded limit le in omega (arith, less));
  }

-- what is left of a search's turns, as a number that lessens with each round
pub rounds_lessen : (limit : ℕ) (old new : List Node) → length old ≤ limit →
    (length new ≤ limit → turns_left limit new < turns_left limit old) →
    cond (nat_lt limit (length new)) 0 (1 + turns_left limit new) <
    cond (nat_lt limit (length old)) 0 (1 + turns_left limit old)
rounds_lessen limit old new few less = by (nat_lt limit (length old)) (nat_lt limit (length new)) refl refl
  where
    by : (b c : Bool) → nat_lt limit (length old) ≡ b → nat_lt limit (length new) ≡ c →
        cond c 0 (1 + turns_left limit new) < cond b 0 (1 + turns_left limit old)
    by true c e f = absurd (let lt = ltb-true limit (length old) e in omega (arith, few, lt))
    by false true e f = omega arith
    by false false e f = let lt = less (ltb-false limit (length new) f) in omega (arith, lt)

pub turns_then : (limit : ℕ) (first second third : List Node) →
    (length second ≤ limit → turns_left limit second < turns_left limit first) → GetsOn second third →
    length third ≤ limit → turns_left limit third < turns_left limit first
turns_then limit first second third less on le =
    let more = on.more in
    let p = less (omega (arith, more, le)) in
    let q = on.turns limit le in
    omega (arith, p, q)
