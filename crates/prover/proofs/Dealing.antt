-- Jobs that are dealt to lanes, over plain lists.
use Rattle.std.proofs.Common.{◌≡◌, ◌∙◌, ℕ, suc, ◌≤◌, ◌<◌, List, [], ◌∷◌, ◌++◌, length, get_or, Option, Some, inl, inr}
use Rattle.std.proofs.Common.{sym, subst, ap, arith, drop, take, false, Vec, Global}
use Rattle.std.proofs.lemmas.Option.{slice_get-get_or}
use Rattle.std.proofs.lemmas.Bool.{false≢true}
use Rattle.std.proofs.Math.Seq.{take-append_seam}
use Rattle.std.specs.Prelude.{◌^◌, slice_get}
use Rattle.std.specs.Vec.{with_items}
use Rattle.grid.specs.Board.{Board, Scene, IsSolved}
use Rattle.grid.specs.States.{FitsLevel}
use Rattle.store.specs.Visited.{Node, VisitedView}
use Rattle.successors.specs.Problems.{Problem}
use Rattle.successors.proofs.lemmas.Lists.{each_push}
use Rattle.prover.specs.declared.lane.Pick.{Pick}
use Rattle.prover.specs.declared.lane.Lane.{Lane}
use Rattle.prover.specs.declared.pushing.Expanded.{Expanded}
use Rattle.prover.specs.declared.pushing.Opened.{Opened}
use Rattle.prover.specs.Frontier.{IsReachedAfter}
use Rattle.prover.specs.inside.Rounds.{ArePicks, AreLanes, IsPick}
use Rattle.prover.specs.inside.Working.{IsExpansion, IsKept, KeepPlaces, MayBeExpanded, IsSearchOnBoard, IsWaiting}
use Rattle.prover.proofs.Keeping.{keeps_so}
use Rattle.prover.proofs.Openings.{found_on}

-- what holds of each element of a list holds of the one at a place
pub each_at : {A : Type 0} (P : A → Type 0) (xs : List A) (i : ℕ) → i < length xs →
    ((j : ℕ) (z : A) → slice_get xs j ≡ Some z → P z) → (d : A) → P (get_or xs i d)
each_at P xs i lt each d = each i (get_or xs i d) (slice_get-get_or xs i d lt)

-- one more pick
pub picks_push : (t : Problem) (all : List Node) (old new : List Pick) (pick : Pick) → new ≡ old ++ pick ∷ [] →
    pick.is_done ≡ false → MayBeExpanded t.board pick.from → ArePicks t all old → ArePicks t all new
picks_push t all old new pick shape undone ready picks = subst (ArePicks t all) (sym shape)
    (each_push (IsPick t all) old pick
    (record { ready = ready; found = λ done. absurd (false≢true (sym undone ∙ done)) }) picks)

-- an expansion beside what was found is one beside what is found later
expansion_on : (board : Board) (cap : Option ℕ) (old new : List Node) (from : Expanded) (opened : List Opened)
    (next : Option ℕ) → KeepPlaces old new → IsExpansion board cap old from opened next →
    IsExpansion board cap new from opened next
expansion_on board cap old new from opened next still expansion = record {
  each = expansion.each;
  expands = λ most allowed. keeps_so board (IsKept old from.pushes opened) (IsKept new from.pushes opened) most
      from.pushes from.position by (expansion.expands most allowed);
  later = expansion.later;
}
  where
    by : (t : Scene) → IsKept old from.pushes opened t → IsKept new from.pushes opened t
    by t (inl o) = inl o
    by t (inr found) = inr (found_on old new still (suc from.pushes) t found)

-- what lanes hold beside what was found they hold beside what is found later
pub lanes_on : (t : Problem) (old new : List Node) (lanes : List Lane) → KeepPlaces old new → AreLanes t old lanes →
    AreLanes t new lanes
lanes_on t old new lanes still are i lane at = record {
  problem = (are i lane at).problem;
  picks = λ j pick there. (let is = (are i lane at).picks j pick there in record {
    ready = is.ready;
    found = λ done. expansion_on t.board t.cap old new pick.from pick.opened.items pick.next still (is.found done);
  });
}

-- a position that was found and is not solved can be expanded
pub ready_by : (board : Board) (cap : Option ℕ) (v : VisitedView) (place : ℕ) (x : Node) (from : Expanded) →
    IsSearchOnBoard board cap v → length v.entries < 2 ^ 32 → slice_get v.entries place ≡ Some x →
    (from.position ≡ x.position) × (from.pushes ≡ x.pushes) → from.reach < 2 ^ 32 → ¬ (IsSolved board from.position) →
    MayBeExpanded board from
ready_by board cap v place x from searched few at same range unsolved =
    let less = searched.under_way.few place x at in
    let count = same.1 in
    let one_more : suc from.pushes < 2 ^ 32 = omega (arith, less, count, few) in
    record {
      expandable = record {
        fits = subst (FitsLevel board) (sym same.0) (searched.under_way.sound place x at).fits;
        reached = subst (IsReachedAfter board from.pushes) (sym same.0)
            (subst (λ (j : ℕ). IsReachedAfter board j x.position) (sym count)
            (searched.under_way.sound place x at).reached);
        few = one_more;
      };
      range = record { pushes = one_more; reach = range };
      unsolved = unsolved;
    }

-- the position that has the least total is open for each total that is not less
pub waits_by : (all : List Node) (place least : ℕ) (x : Node) (from : Expanded) → slice_get all place ≡ Some x →
    x.least ≡ Some least → from.place ≡ place → (from.position ≡ x.position) × (from.pushes ≡ x.pushes) →
    least ≤ from.reach → IsWaiting all from
waits_by all place least x from at open_ here same near = record {
  entry = x;
  least = least;
  at = subst (λ (p : ℕ). slice_get all p ≡ Some x) (sym here) at;
  same = sym same.0;
  count = sym same.1;
  is_open = open_;
  near = near;
}

-- what holds of each element of a slice holds of each element of the vector that it is written back to
pub each_back : {A : Type 0} (P : A → Type 0) (v : Vec A Global) (new : List A) → length new ≡ v.len →
    ((j : ℕ) (z : A) → slice_get new j ≡ Some z → P z) → (j : ℕ) (z : A) →
    slice_get (with_items v new).items j ≡ Some z → P z
each_back {A = A} P v new long each =
    let rest = drop (length new) v.items in
    subst (λ (xs : List A). (j : ℕ) (z : A) → slice_get xs j ≡ Some z → P z)
    (sym (ap (λ (n : ℕ). take n (new ++ rest)) (sym long) ∙ take-append_seam new rest)) each
