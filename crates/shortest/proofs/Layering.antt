-- How states are listed by their pushes, over plain lists.
use Rattle.std.proofs.Common.{◌≡◌, ℕ, zero, suc, ◌+◌, ◌≤◌, ◌<◌, ◌⊎◌, List, [], ◌∷◌, ◌++◌, map, length, Option, None}
use Rattle.std.proofs.Common.{Some, inl, inr, refl, sym, ap, subst, IfSome, ◌∙◌, arith}
use Rattle.std.proofs.lemmas.Bool.{cases_eq}
use Rattle.std.proofs.lemmas.List.{length-append, length-map}
use Rattle.std.proofs.lemmas.Option.{none-some, same_Some, slice_get_within}
use Rattle.std.specs.Prelude.{slice_get}
use Rattle.grid.specs.declared.square.Push.{Push}
use Rattle.grid.specs.Board.{Board, Scene, start}
use Rattle.grid.specs.Plays.{Play, Any, stay}
use Rattle.grid.specs.Lawful.{box_count}
use Rattle.grid.specs.States.{IsScene, FitsLevel}
use Rattle.grid.proofs.lemmas.Plays.{play-append}
use Rattle.grid.proofs.lemmas.Steps.{same_scene}
use Rattle.area.specs.Area.{IsNorm}
use Rattle.area.specs.Pushes.{ArePushes, CanPush}
use Rattle.doom.specs.Lost.{IsLost}
use Rattle.prices.specs.Helping.{NeverHelps, SlackView}
use Rattle.prices.specs.Solving.{Allows, NoneWithin, SolvableWithin}
use Rattle.prices.proofs.lemmas.Solving.{none_is_not_solvable}
use Rattle.store.specs.Earlier.{IsFoundWithin}
use Rattle.prices.proofs.lemmas.Lists.{upto_more}
use Rattle.prices.proofs.lemmas.Slacks.{never_solves}
use Rattle.successors.proofs.lemmas.Pushes.{is_pushed, play_by_push}
use Rattle.store.specs.FoundView.{FitsGrid}
use Rattle.store.specs.Visited.{Node, HasEntered, entry_of}
use Rattle.store.specs.declared.visited.Label.{Label}
use Rattle.store.proofs.lemmas.Fitting.{level_fits}
use Rattle.successors.specs.Distances.{AreDistinct}
use Rattle.successors.specs.Expansion.{after_push}
use Rattle.successors.proofs.lemmas.Successors.{after_scene}
use Rattle.successors.proofs.lemmas.Lists.{at-push, at_before, at_map, at_seam}
use Rattle.shortest.specs.Shortest.{HasMoreStates, IsReachedBy}
use Rattle.shortest.specs.inside.Listing.{ArePushesKept, AreStatesListed, IsAfter, IsEntryAt, IsListedOrLost}
use Rattle.shortest.specs.inside.Listing.{IsReachedState, KeepsEach, Lists, ListsIf}

-- ---- lists

found_front : (old : List Node) (e : Node) (k : ℕ) (s : Scene) → IsFoundWithin old k s →
    IsFoundWithin (old ++ e ∷ []) k s
found_front old e k s (i, x, at_i, same, le) = (i, x, at_before old (e ∷ []) i x at_i, same, le)

-- ---- one more state

-- entering an entry lists it, where none has more pushes
lists_by : (old new : List Node) (e : Node) (place : Option ℕ) →
    ((i : ℕ) (x : Node) → slice_get old i ≡ Some x → x.pushes ≤ e.pushes) → HasEntered old new e place → Lists old new e
lists_by old new e (Some i) most (inl (end, is, fresh)) = inr is
lists_by old new e (Some i) most (inr (x, at_i, same, lt, is)) =
    absurd (let le = most i x at_i in omega (arith, lt, le))
lists_by old new e None most (is, (i, x, at_i, same, le)) = inl (is, (i, x, at_i, same, le))

-- the list of the start alone
first_listed : (board : Board) (most : ℕ) (old new : List Node) (e : Node) (place : Option ℕ) → old ≡ [] →
    FitsLevel board e.position → e.position ≡ start board → e.pushes ≡ 0 → HasEntered old new e place →
    AreStatesListed board most 0 new
first_listed board most old new e place none fits first zero_ entered =
    by (lists_by [] new e place (λ i x at_i. absurd (none-some x at_i))
    (subst (λ (xs : List Node). HasEntered xs new e place) none entered))
  where
    only : (i : ℕ) (x : Node) → slice_get (e ∷ []) i ≡ Some x → x ≡ e
    only zero x at_i = sym (same_Some e x at_i)
    only (suc i) x at_i = absurd (none-some x at_i)

    count : (i : ℕ) (x : Node) → slice_get (e ∷ []) i ≡ Some x → x.pushes ≡ 0
    count i x at_i = ap (λ (y : Node). y.pushes) (only i x at_i) ∙ zero_

    alone : AreStatesListed board most 0 (e ∷ [])
    alone = record {
      begun = (e, refl, first, zero_);
      each = λ i x at_i. subst (IsReachedState board most) (sym (only i x at_i)) (record {
        fits = fits;
        reached =
            ([], [], subst (λ (s : Scene). Play board Any (start board) [] [] s) (sym first) (stay tt), sym zero_);
        few = omega (arith, zero_);
      });
      sorted = λ i j x y le at_i at_j. (let p = count i x at_i in let q = count j y at_j in omega (arith, p, q));
      near = λ i j x y le at_i at_j. (let q = count j y at_j in omega (arith, q));
      expanded = λ i x lt at_i. absurd (omega (arith, lt));
    }

    by : Lists [] new e → AreStatesListed board most 0 new
    by (inl (is, (i, x, at_i, same, le))) = absurd (none-some x at_i)
    by (inr is) = subst (AreStatesListed board most 0) (sym is) alone

-- a play goes on by a push
reached_after : (board : Board) (k : ℕ) (s : Scene) (p : Push) → IsScene board s → CanPush board s p →
    IsReachedBy board k s → IsReachedBy board (suc k) (after_push board s p)
reached_after board k s p scene can (ds, ps, play, many) =
    let long = length-append ps (p ∷ []) in (
      ds ++ (can.behind.0 ++ p.dir ∷ []),
      ps ++ p ∷ [],
      play-append play (play_by_push board s p scene can can.behind.1 (stay tt)),
      omega (arith, long, many),
    )

module _ (board : Board) (most place : ℕ) (old : List Node) (k : ℕ) (s : Scene) (p : Push)
    (listed : AreStatesListed board most place old) (at_place : IsEntryAt old place s k) (fewer : k < most)
    (can : CanPush board s p) where
  same : at_place.0.position ≡ s
  same = at_place.2

  -- no entry has more pushes than the new one
  most_so_far : (j : ℕ) (y : Node) → slice_get old j ≡ Some y → y.pushes ≤ suc k
  most_so_far j y at_j =
      let le = listed.near place j at_place.0 y (omega arith) at_place.1 at_j in
      let c = at_place.3 in
      omega (arith, le, c)

  scene : IsScene board s
  scene = subst (IsScene board) same (listed.each place at_place.0 at_place.1).fits.scene

  -- the state after a push comes last
  one_more : (e : Node) → e.position ≡ after_push board s p → e.pushes ≡ suc k → FitsLevel board e.position →
      AreStatesListed board most place (old ++ e ∷ [])
  one_more e there count fits = record {
    begun = (let (y, at_y, first, zero_) = listed.begun in (y, at_before old (e ∷ []) 0 y at_y, first, zero_));
    each = λ i y at_i. elim (at-push old e i y at_i) [
      | inl before ↦ listed.each i y before
      | inr (end, is) ↦ subst (IsReachedState board most) (sym is) (record {
        fits = fits;
        reached =
            subst (λ (n : ℕ). IsReachedBy board n e.position) (sym count) (subst (IsReachedBy board (suc k)) (sym there)
            (reached_after board k s p scene can
            (subst (λ (n : ℕ). IsReachedBy board n s) at_place.3
            (subst (IsReachedBy board at_place.0.pushes) same (listed.each place at_place.0 at_place.1).reached))));
        few = omega (arith, count, fewer);
      })
    ];
    sorted = λ i j y z le at_i at_j. sorted_on i j y z le (at-push old e i y at_i) (at-push old e j z at_j);
    near = λ i j y z le at_i at_j. near_on i j y z le (at-push old e i y at_i) (at-push old e j z at_j);
    expanded = λ i y lt at_i. elim (at-push old e i y at_i) [
      | inl before ↦ (λ q can_q m sum solvable. found_front old e (suc y.pushes) (after_push board y.position q)
          (listed.expanded i y lt before q can_q m sum solvable))
      | inr (end, is) ↦
          absurd (let in_ = slice_get_within old place at_place.0 at_place.1 in omega (arith, lt, end, in_))
    ];
  }
    where
      sorted_on : (i j : ℕ) (y z : Node) → i ≤ j → (slice_get old i ≡ Some y) ⊎ ((i ≡ length old) × (y ≡ e)) →
          (slice_get old j ≡ Some z) ⊎ ((j ≡ length old) × (z ≡ e)) → y.pushes ≤ z.pushes
      sorted_on i j y z le (inl one) (inl two) = listed.sorted i j y z le one two
      sorted_on i j y z le (inl one) (inr (end, is)) =
          let few = most_so_far i y one in let c = ap (λ (w : Node). w.pushes) is in omega (arith, few, c, count)
      sorted_on i j y z le (inr (end, is)) (inl two) =
          absurd (let lt = slice_get_within old j z two in omega (arith, le, end, lt))
      sorted_on i j y z le (inr (end, is)) (inr (last, so)) =
          let c = ap (λ (w : Node). w.pushes) is in let d = ap (λ (w : Node). w.pushes) so in omega (arith, c, d)

      near_on : (i j : ℕ) (y z : Node) → place ≤ i → (slice_get old i ≡ Some y) ⊎ ((i ≡ length old) × (y ≡ e)) →
          (slice_get old j ≡ Some z) ⊎ ((j ≡ length old) × (z ≡ e)) → z.pushes ≤ suc y.pushes
      near_on i j y z le (inl one) (inl two) = listed.near i j y z le one two
      near_on i j y z le (inl one) (inr (end, is)) =
          let few = listed.sorted place i at_place.0 y le at_place.1 one in
          let c = ap (λ (w : Node). w.pushes) is in
          let d = at_place.3 in
          omega (arith, few, c, count, d)
      near_on i j y z le (inr (end, is)) (inl two) =
          let few = most_so_far j z two in let c = ap (λ (w : Node). w.pushes) is in omega (arith, few, c, count)
      near_on i j y z le (inr (end, is)) (inr (last, so)) =
          let c = ap (λ (w : Node). w.pushes) is in let d = ap (λ (w : Node). w.pushes) so in omega (arith, c, d)

  -- the list goes on with one more push kept
  abbrev GoesOn : List Node → List Push → ℕ → Type 0
  GoesOn all pushes i =
      AreStatesListed board most place all × IsEntryAt all place s k × ArePushesKept board most all k s pushes (i + 1)

  -- an unchanged list
  same_on : (new : List Node) (pushes : List Push) (i : ℕ) → slice_get pushes i ≡ Some p → new ≡ old →
      ArePushesKept board most old k s pushes i → IsListedOrLost board most old k s p → GoesOn new pushes i
  same_on new pushes i at_i unchanged kept here = subst (λ (all : List Node). GoesOn all pushes i) (sym unchanged)
      (listed, at_place, upto_more (IsListedOrLost board most old k s) pushes i p at_i kept here)

  -- a longer list
  longer_on : (new : List Node) (e : Node) (pushes : List Push) (i : ℕ) → e.position ≡ after_push board s p →
      e.pushes ≡ suc k → FitsLevel board e.position → slice_get pushes i ≡ Some p → new ≡ old ++ e ∷ [] →
      ArePushesKept board most old k s pushes i → GoesOn new pushes i
  longer_on new e pushes i there count fits at_i longer kept =
      subst (λ (all : List Node). GoesOn all pushes i) (sym longer) (
        one_more e there count fits,
        (at_place.0, at_before old (e ∷ []) place at_place.0 at_place.1, at_place.2, at_place.3),
        upto_more (IsListedOrLost board most (old ++ e ∷ []) k s) pushes i p at_i
            (λ j q lt at_j m total solvable. found_front old e (suc k) (after_push board s q) (kept j q lt at_j m total solvable))
            (λ m total solvable. (length old, e, at_seam old e, there, omega (arith, count))),
      )

  -- after one more push of the state at the place
  pub pushed_on : (new : List Node) (left n : ℕ) (after : Option Scene) (pushes : List Push) (i : ℕ) →
      k + suc left ≡ most → n ≡ suc k → slice_get pushes i ≡ Some p → IsAfter board left s p after →
      ListsIf old new n after → ArePushesKept board most old k s pushes i → GoesOn new pushes i
  pushed_on new left n None pushes i sum count at_i after unchanged kept = same_on new pushes i at_i unchanged kept
      (λ m total solvable. absurd (let same : m ≡ left = omega (arith, total, sum) in
      after (subst (λ (h : ℕ). SolvableWithin board h (after_push board s p)) same solvable)))
  pushed_on new left n (Some t) pushes i sum count at_i (there, fits) (inl (unchanged, found)) kept =
      same_on new pushes i at_i unchanged kept (λ m total solvable.
      subst (λ (h : ℕ). IsFoundWithin old h (after_push board s p)) count (subst (IsFoundWithin old n) there found))
  pushed_on new left n (Some t) pushes i sum count at_i (there, fits) (inr longer) kept =
      longer_on new (record { position = t; pushes = n; least = None; parent = None }) pushes i there count fits at_i longer kept

-- ---- a state is expanded

-- a state whose pushes are all kept is one more
expanded_more : (board : Board) (most place : ℕ) (all : List Node) (x : Node) → slice_get all place ≡ Some x →
    KeepsEach board most all x → AreStatesListed board most place all → AreStatesListed board most (suc place) all
expanded_more board most place all x at_x keeps listed = record {
  begun = listed.begun;
  each = listed.each;
  sorted = listed.sorted;
  near = λ i j y z le. listed.near i j y z (omega (arith, le));
  expanded = λ i y lt at_i. elim (cases_eq i place) [
    | inl e ↦ subst (KeepsEach board most all)
        (same_Some x y (sym at_x ∙ (ap (λ (h : ℕ). slice_get all h) (sym e) ∙ at_i))) keeps
    | inr ne ↦ listed.expanded i y (omega (arith, lt, ne)) at_i
  ];
}

-- all its pushes are kept
pub expanded_on : (board : Board) (most place : ℕ) (all : List Node) (k : ℕ) (s : Scene) (pushes : List Push)
    (count : ℕ) → ArePushes board s pushes → length pushes ≤ count → AreStatesListed board most place all →
    IsEntryAt all place s k → ArePushesKept board most all k s pushes count → AreStatesListed board most (suc place) all
expanded_on board most place all k s pushes count are over listed (x, at_x, same, many) kept =
    expanded_more board most place all x at_x (λ p can. subst (λ (t : Scene). IsListedOrLost board most all x.pushes t p) (sym same)
    (subst (λ (n : ℕ). IsListedOrLost board most all n s p) (sym many) (kept_here p (subst (λ (t : Scene). CanPush board t p) same can))))
    listed
  where
    kept_here : (p : Push) → CanPush board s p → IsListedOrLost board most all k s p
    kept_here p can =
        let (j, at_j) = are.whole p can in
        kept j p (let lt = slice_get_within pushes j p at_j in omega (arith, lt, over)) at_j

-- it has as many pushes as the solutions
pub expanded_last : (board : Board) (most place : ℕ) (all : List Node) (k : ℕ) (s : Scene) → most ≤ k →
    AreStatesListed board most place all → IsEntryAt all place s k → AreStatesListed board most (suc place) all
expanded_last board most place all k s enough listed (x, at_x, same, many) = expanded_more board most place all x at_x
    (λ p can m sum solvable. absurd (omega (arith, sum, many, enough))) listed

-- all are expanded
pub all_expanded : (board : Board) (most place : ℕ) (all : List Node) → length all ≤ place →
    AreStatesListed board most place all → AreStatesListed board most (length all) all
all_expanded board most place all over listed = record {
  begun = listed.begun;
  each = listed.each;
  sorted = listed.sorted;
  near = λ i j y z le at_i at_j. absurd (let lt = slice_get_within all i y at_i in omega (arith, lt, le));
  expanded = λ i y lt at_i. listed.expanded i y (omega (arith, lt, over)) at_i;
}

-- more states are listed than the limit
pub has_more_states : (board : Board) (most limit done : ℕ) (all : List Node) → AreStatesListed board most done all →
    AreDistinct (map (λ (x : Node). x.position) all) → limit < length all → HasMoreStates board most limit
has_more_states board most limit done all listed distinct more = record {
  states = map (λ (x : Node). x.position) all;
  many = (let e = length-map all (λ (x : Node). x.position) in omega (arith, e, more));
  different = distinct;
  reached = λ i s at_i. (let (x, at_x, same) = at_map (λ (x : Node). x.position) all i s at_i in
      (x.pushes, (listed.each i x at_x).few, subst (IsReachedBy board x.pushes) same (listed.each i x at_x).reached));
}

-- ---- what the prunings say

-- a push that never helps with the pushes that are left
pub never_on : (board : Board) (left : ℕ) (v : SlackView) (s : Scene) (p : Push) →
    (v.board ≡ board) × (v.scene ≡ s) × (v.left ≡ Some left) → IsScene board s → CanPush board s p →
    ((m : ℕ) → Allows v.left m → NeverHelps v.board (suc m) v.scene p.square p.dir) →
    ¬ (SolvableWithin board left (after_push board s p))
never_on board left v s p same scene can never = (none_is_not_solvable board left (after_push board s p)).0
    (never_solves board s (after_push board s p) p scene (is_pushed board s p can) v left (same.0, same.1)
    (never left (subst (λ (o : Option ℕ). Allows o left) (sym same.2) (omega arith))))

-- a state from which no play ends solved
pub lost_on : (board : Board) (left : ℕ) (t : Scene) → IsLost board t → ¬ (SolvableWithin board left t)
lost_on board left t lost (ds, ps, u, play, solved, few) = lost u ds ps play solved

-- a state from which none ends solved with the pushes that are left
pub none_on : (board : Board) (left : ℕ) (t u : Scene) → t ≡ u → NoneWithin board left t →
    ¬ (SolvableWithin board left u)
none_on board left t u same none = (none_is_not_solvable board left u).0 (subst (NoneWithin board left) same none)

-- the normal form with its player where the box was is the state after the push
pub exact : (board : Board) (s n : Scene) (p : Push) → IsNorm board (after_push board s p) n →
    record { boxes = n.boxes; player = p.square } ≡ after_push board s p
exact board s n p norm = same_scene norm.boxes refl

pub exact_fits : (board : Board) (s n : Scene) (p : Push) → IsScene board s → CanPush board s p →
    IsNorm board (after_push board s p) n → FitsLevel board n →
    FitsLevel board (record { boxes = n.boxes; player = p.square })
exact_fits board s n p scene can norm fits = record {
  scene = subst (IsScene board) (sym (exact board s n p norm)) (after_scene board s scene p can);
  boxes = fits.boxes;
}

-- ---- what calls ask for

pub fits_at : (board : Board) (most done place k : ℕ) (all : List Node) (s : Scene) →
    AreStatesListed board most done all → IsEntryAt all place s k → FitsLevel board s
fits_at board most done place k all s listed (x, at_x, same, count) =
    subst (FitsLevel board) same (listed.each place x at_x).fits

-- the state after a push fits the grid
pub after_fits : (board : Board) (left boxes squares : ℕ) (s : Scene) (p : Push) (after : Option Scene) →
    boxes ≡ box_count board → squares ≡ length board.cells → IsAfter board left s p after →
    IfSome after (λ t. FitsGrid boxes squares t)
after_fits board left boxes squares s p None boxes_are squares_are is = tt
after_fits board left boxes squares s p (Some t) boxes_are squares_are (same, fits) =
    level_fits board boxes squares t boxes_are squares_are fits

-- a state, or none, is listed
pub lists_some : (old new : List Node) (s : Scene) (pushes : ℕ) (label : Label) (place : Option ℕ) →
    ((i : ℕ) (x : Node) → slice_get old i ≡ Some x → x.pushes ≤ pushes) →
    label ≡ record { pushes = pushes; least = None; parent = None } → HasEntered old new (entry_of (s, label)) place →
    ListsIf old new pushes (Some s)
lists_some old new s pushes label place most is entered =
    lists_by old new (record { position = s; pushes = pushes; least = None; parent = None }) place most
    (subst (λ (l : Label). HasEntered old new (entry_of (s, l)) place) is entered)

-- the start is listed
pub start_listed : (board : Board) (most : ℕ) (old new : List Node) (s : Scene) (label : Label) (place : Option ℕ) →
    old ≡ [] → s ≡ start board → FitsLevel board (start board) →
    label ≡ record { pushes = 0; least = None; parent = None } → HasEntered old new (entry_of (s, label)) place →
    AreStatesListed board most 0 new
start_listed board most old new s label place none first fits is entered =
    first_listed board most old new (record { position = s; pushes = 0; least = None; parent = None }) place none
    (subst (FitsLevel board) (sym first) fits) first refl
    (subst (λ (l : Label). HasEntered old new (entry_of (s, l)) place) is entered)
