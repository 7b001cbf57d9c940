-- What the end of a search says, over plain lists of what was found.
use Rattle.std.proofs.Common.{◌≡◌, ℕ, ◌<◌, List, length, map, Option, None, Some, Result, Ok, Err}
use Rattle.std.proofs.Common.{IfOk, inl, inr, refl, sym, subst, arith, max}
use Rattle.std.proofs.lemmas.Bool.{cases_lt}
use Rattle.std.proofs.lemmas.List.{length-map}
use Rattle.std.specs.Prelude.{slice_get}
use Rattle.grid.specs.Board.{Board, IsSolved}
use Rattle.grid.specs.Lawful.{IsLevel}
use Rattle.prices.specs.Solving.{Allows}
use Rattle.successors.specs.Distances.{AreDistinct}
use Rattle.store.specs.Visited.{Node, VisitedView}
use Rattle.successors.proofs.lemmas.Lists.{at_map}
use Rattle.prices.specs.Fewest.{NoneHasFewer}
use Rattle.prover.specs.Reachable.{IsReachable, HasMore}
use Rattle.prover.specs.Frontier.{IsSearchUnderWay, AreFrom, NoneIsOpen}
use Rattle.prover.specs.inside.Working.{IsLeastOpen, IsSearchOnBoard}
use Rattle.prover.specs.Outcomes.{IsOutcome}
use Rattle.prover.specs.inside.SearchEnds.{NoneIsAllowed, IsFloor, IsLeastSolved, Tells}
use Rattle.prover.specs.declared.outcome.Outcome.{Outcome}
use Rattle.prover.specs.declared.searching.SearchEnd.{SearchEnd}
use Rattle.prover.specs.declared.searching.SearchEnd.TheVariants.{Closed, Solved, Limit, Stopped}
use Rattle.prover.proofs.lemmas.Outcomes.{outcome_then}
use Rattle.prover.proofs.Openings.{allows_fewer, least_bounds, closed_decides}

none_has_fewer : (board : Board) (cap : Option ℕ) (all : List Node) (least : ℕ) → IsLevel board →
    IsSearchUnderWay board cap all → AreFrom least all → Allows cap least → NoneHasFewer board least
none_has_fewer board None all least level under from allowed ds ps solution =
    least_bounds board level None all least under from ds ps solution tt
none_has_fewer board (Some most) all least level under from allowed ds ps solution = elim (cases_lt most (length ps)) [
  | inl more ↦ omega (arith, more, allowed)
  | inr few ↦ least_bounds board level (Some most) all least under from ds ps solution few
]

pub none_is_allowed : (board : Board) (cap : Option ℕ) (all : List Node) → IsLevel board →
    IsSearchUnderWay board cap all → NoneIsOpen all → NoneIsAllowed board cap
none_is_allowed board None all level under closed =
    λ t ds ps play solved. closed_decides board level None all under closed ds ps (t, play, solved) tt
none_is_allowed board (Some most) all level under closed = λ ds ps t play solved. elim (cases_lt most (length ps)) [
  | inl more ↦ more
  | inr few ↦ absurd (closed_decides board level (Some most) all under closed ds ps (t, play, solved) few)
]

-- what a solved position of the least total says
pub solved_told : (board : Board) (cap : Option ℕ) (all : List Node) (place least : ℕ) → IsLevel board →
    IsSearchUnderWay board cap all → IsLeastOpen all place least →
    ((x : Node) → slice_get all place ≡ Some x → IsSolved board x.position) → IsLeastSolved board cap all place
solved_told board cap all place least level under (x, at, open_, from) solved =
    let total = (under.sound place x at).total least open_ in
    let bound = none_has_fewer board cap all least level under from total.allowed in record {
      entry = x;
      at = at;
      solved = solved x at;
      fewest = λ ds ps solution. (let le = bound ds ps solution in let near = total.near in omega (arith, le, near));
      allowed = allows_fewer cap x.pushes least total.near total.allowed;
    }

-- what the least total says
least_told : (board : Board) (cap : Option ℕ) (all : List Node) (place least : ℕ) → IsLevel board →
    IsSearchUnderWay board cap all → IsLeastOpen all place least → IsFloor board cap least
least_told board cap all place least level under (x, at, open_, from) =
    let allowed = ((under.sound place x at).total least open_).allowed in
    (none_has_fewer board cap all least level under from allowed, allowed)

-- and the greater one of two such numbers
told_more : (board : Board) (cap : Option ℕ) (a b n : ℕ) → n ≡ max a b → IsFloor board cap a → IsFloor board cap b →
    IsFloor board cap n
told_more board cap a b n is first second = (
  (λ ds ps solution. let p = first.0 ds ps solution in let q = second.0 ds ps solution in omega (arith, is, p, q)),
  by cap first.1 second.1,
)
  where
    by : (cap : Option ℕ) → Allows cap a → Allows cap b → Allows cap n
    by None one two = tt
    by (Some most) one two = omega (arith, is, one, two)

-- so the greater one of the least total and such a number
floor_then : (board : Board) (cap : Option ℕ) (all : List Node) (place least reach n : ℕ) → n ≡ max least reach →
    IsLevel board → IsSearchUnderWay board cap all → IsLeastOpen all place least → IsFloor board cap reach →
    IsFloor board cap n
floor_then board cap all place least reach n is level under found floor =
    told_more board cap least reach n is (least_told board cap all place least level under found) floor

-- a call that leaves what was found as it was leaves the search under way
pub under_way_on : {old new : VisitedView} {board : Board} {cap : Option ℕ} → new ≡ old →
    IsSearchOnBoard board cap old → IsSearchUnderWay board cap new.entries
under_way_on {board = board} {cap} same searched =
    (subst (λ (v : VisitedView). IsSearchOnBoard board cap v) (sym same) searched).under_way

-- and the least total tells as much
pub floor_on : {old new : VisitedView} {board held : Board} {cap : Option ℕ} {reach n : ℕ} (place least : ℕ) →
    new ≡ old → held ≡ board → IsLevel held → IsSearchOnBoard board cap old → IsLeastOpen new.entries place least →
    n ≡ max least reach → IsFloor board cap reach → IsFloor board cap n
floor_on {new = new} {board} {cap = cap} {reach} {n} place least same is level searched found greater floor =
    floor_then board cap new.entries place least reach n greater (subst (λ (b : Board). IsLevel b) is level)
    (under_way_on same searched) found floor

pub has_more : (board : Board) (cap : Option ℕ) (all : List Node) (limit : ℕ) → IsSearchUnderWay board cap all →
    AreDistinct (map (λ (x : Node). x.position) all) → limit < length all → HasMore board limit
has_more board cap all limit under distinct many = record {
  positions = map (λ (x : Node). x.position) all;
  many = (let e = length-map all (λ (x : Node). x.position) in omega (arith, e, many));
  different = distinct;
  reached = λ i s p. (let (x, a, same) = at_map (λ (x : Node). x.position) all i s p in
      let (ds, ps, t, play, norm, long) = (under.sound i x a).reached in
      subst (IsReachable board) same (ds, ps, t, play, norm));
}

-- an end before the limit says as much under a greater one
pub tells_beyond : (board : Board) (cap : Option ℕ) (few limit : ℕ) (Late : Type 0) (all : List Node) (end : SearchEnd) →
    ¬ (end ≡ Limit) → Tells board cap few Late all end → Tells board cap limit Late all end
tells_beyond board cap few limit Late all Closed before told = told
tells_beyond board cap few limit Late all (Solved place) before told = told
tells_beyond board cap few limit Late all Limit before told = absurd (before refl)
tells_beyond board cap few limit Late all Stopped before told = told

-- the solution that is read back from a solved position
pub outcome_solved : {E : Type 0} (board : Board) (cap : Option ℕ) (limit : ℕ) (Late : Type 0) (all : List Node)
    (place : ℕ) (end : SearchEnd) (r : Result Outcome E) → end ≡ Solved place → Tells board cap limit Late all end →
    IfOk r (λ o. (cap : Option ℕ) (limit : ℕ) → IsLeastSolved board cap all place → IsOutcome board cap limit ⊥ o) →
    IfOk r (λ o. IsOutcome board cap limit Late o)
outcome_solved board cap limit Late all place end (Ok o) is told found =
    outcome_then board cap limit o (λ e. absurd e)
    (found cap limit (subst (λ (x : SearchEnd). Tells board cap limit Late all x) is told))
outcome_solved board cap limit Late all place end (Err e) is told found = tt
