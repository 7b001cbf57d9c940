use Rattle.std.proofs.Common.{rules, arith, ◌+◌, ◌<◌, ◌≤◌, ◌∙◌, cond, length, nat_lt, sym, subst}
use Rattle.std.proofs.lemmas.Bool.{false≢true}
use Rattle.std.proofs.lemmas.Option.{slice_get_within}
use Rattle.grid.specs.Board.{Board, Scene, IsSolved}
use Rattle.grid.specs.Lawful.{IsLevel}
use Rattle.store.specs.Visited.{VisitedView}
use Rattle.prices.specs.Fewest.{NoneHasFewer}
use Rattle.prover.specs.Frontier.{NoneIsOpen}
use Rattle.prover.specs.inside.SearchEnds.{IsFloor}
use Rattle.prover.specs.inside.Working.{IsLeastOpen, KeepPlaces, IsSearchOnBoard, turns_left}
use Rattle.prover.proofs.Dealing.{lanes_on, ready_by, waits_by}
use Rattle.prover.proofs.Entering.{rounds_lessen, turns_then}
use Rattle.prover.proofs.Endings.{floor_on, has_more, none_is_allowed, solved_told, under_way_on}
use Rattle.prover.proofs.searching.run_rounds.Goals as goal

pub returns-then-solved-clause-tells : goal.returns-then-solved-clause-tells
returns-then-solved-clause-tells g c =
    let found : IsLeastOpen c.least_open.new.self.entries c.in-Some.place c.in-Some.least = search rules in
    let board = c.args.pruner.now.board in
    let level : IsLevel board = subst (λ (b : Board). IsLevel b) c.level.ensures c.tell.ensures in
    solved_told board c.args.pruner.now.cap c.least_open.new.self.entries c.in-Some.place c.in-Some.least level
    (under_way_on c.least_open.ensures.same c.rounds.invariant.searched) found
    (λ x at. subst (λ (s : Scene). IsSolved board s) (c.position.ensures x at)
    (subst (λ (b : Board). IsSolved b c.position.result) c.level-in-Some-2.ensures (c.is_solved-solved.ensures.0 c.if-solved.true)))

pub returns-then-len-limit-clause-tells : goal.returns-then-len-limit-clause-tells
returns-then-len-limit-clause-tells g c =
    let many : c.args.limit < length c.least_open.new.self.entries = search rules in
    has_more c.args.pruner.now.board c.args.pruner.now.cap c.least_open.new.self.entries c.args.limit
    (under_way_on c.least_open.ensures.same c.rounds.invariant.searched) c.tell-then-len-limit.ensures many

pub returns-clause-tells : goal.returns-clause-tells
returns-clause-tells g c =
    let none : NoneIsOpen c.least_open.new.self.entries = search rules in
    let level : IsLevel c.args.pruner.now.board = subst (λ (b : Board). IsLevel b) c.level.ensures c.tell.ensures in
    none_is_allowed c.args.pruner.now.board c.args.pruner.now.cap c.least_open.new.self.entries level
    (under_way_on c.least_open.ensures.same c.rounds.invariant.searched) none

pub expand-requires-clause-waits : goal.expand-requires-clause-waits
expand-requires-clause-waits g c =
    let found : IsLeastOpen c.least_open.new.self.entries c.in-Some.place c.in-Some.least = search rules in
    let (x, at, open_, from) = found in
    let greater = c.max.ensures in
    let reach = c.expanded-first.ensures.place.1 in
    waits_by c.least_open.new.self.entries c.in-Some.place c.in-Some.least x c.expanded-first.result at open_ c.expanded-first.ensures.place.0
    (c.expanded-first.ensures.entry x at) (omega (arith, greater, reach))

pub expand-requires-clause-ready : goal.expand-requires-clause-ready
expand-requires-clause-ready g c =
    let found : IsLeastOpen c.least_open.new.self.entries c.in-Some.place c.in-Some.least = search rules in
    let board = c.args.pruner.now.board in
    let cap = c.args.pruner.now.cap in
    let all = c.least_open.new.self.entries in
    let searched = subst (λ (v : VisitedView). IsSearchOnBoard board cap v) (sym c.least_open.ensures.same) c.rounds.invariant.searched in
    let (x, at, open_, from) = found in
    let few : length all ≤ c.args.limit = search rules in
    let reach = c.expanded-first.ensures.place.1 in
    ready_by board cap c.least_open.new.self c.in-Some.place x c.expanded-first.result searched (omega (arith, few)) at (c.expanded-first.ensures.entry x at)
    (omega (arith, reach)) (λ solved. false≢true (sym c.if-solved.false ∙ c.is_solved-solved.ensures.1
    (subst (λ (b : Board). IsSolved b c.position.result) (sym c.level-in-Some-2.ensures)
    (subst (λ (s : Scene). IsSolved board s) ((c.expanded-first.ensures.entry x at).0 ∙ sym (c.position.ensures x at)) solved))))

pub expand_more-requires-clause-desk : goal.expand_more-requires-clause-desk
expand_more-requires-clause-desk g c κs within = record {
  problem = c.expand.ensures.problem ∙ c.rounds.invariant.desk.problem;
  lanes = lanes_on c.args.pruner.now c.rounds.frontier.entries c.expand.new.frontier.entries c.rounds.desk.lanes.items
      (subst (λ (v : VisitedView). KeepPlaces v.entries c.expand.new.frontier.entries) c.least_open.ensures.same c.in_ok-expand.ensures.goes_on.still)
      c.rounds.invariant.desk.lanes;
}

pub rounds-init : goal.rounds-init
rounds-init g c = record {
  searched = c.requires.searched;
  floor = c.requires.floor;
  desk = c.requires.desk;
}

pub position-requires : goal.position-requires
position-requires g c =
    let found : IsLeastOpen c.least_open.new.self.entries c.in-Some.place c.in-Some.least = search rules in
    slice_get_within c.least_open.new.self.entries c.in-Some.place found.0 found.1

pub expanded-first-requires-clause-place : goal.expanded-first-requires-clause-place
expanded-first-requires-clause-place g c =
    let found : IsLeastOpen c.least_open.new.self.entries c.in-Some.place c.in-Some.least = search rules in
    slice_get_within c.least_open.new.self.entries c.in-Some.place found.0 found.1

pub rounds-preserved : goal.rounds-preserved
rounds-preserved g c = record {
  searched = c.in_ok-expand_more.ensures.searched;
  floor = floor_on c.in-Some.place c.in-Some.least c.least_open.ensures.same c.level.ensures c.tell.ensures c.rounds.invariant.searched
      (search rules) c.max.ensures c.rounds.invariant.floor;
  desk = c.in_ok-expand_more.ensures.desk;
}

pub rounds-smaller : goal.rounds-smaller
rounds-smaller g c =
    let limit = c.args.limit in
    let all = c.least_open.new.self.entries in
    let new = c.expand_more.new.frontier.entries in
    let few : length all ≤ limit = search rules in
    subst (λ (v : VisitedView). cond (nat_lt limit (length new)) 0 (1 + turns_left limit new) <
    cond (nat_lt limit (length v.entries)) 0 (1 + turns_left limit v.entries)) c.least_open.ensures.same
    (rounds_lessen limit all new few
    (turns_then limit all c.expand.new.frontier.entries new (c.in_ok-expand.ensures.fewer_turns limit) c.in_ok-expand_more.ensures.goes_on))

pub returns-then-solved-clause-floor : goal.returns-then-solved-clause-floor
returns-then-solved-clause-floor g c =
    floor_on c.in-Some.place c.in-Some.least c.least_open.ensures.same c.level.ensures c.tell.ensures c.rounds.invariant.searched
    (search rules) c.max.ensures c.rounds.invariant.floor

pub returns-then-len-limit-clause-floor : goal.returns-then-len-limit-clause-floor
returns-then-len-limit-clause-floor g c =
    floor_on c.in-Some.place c.in-Some.least c.least_open.ensures.same c.level.ensures c.tell.ensures c.rounds.invariant.searched
    (search rules) c.max.ensures c.rounds.invariant.floor

pub returns-in_err-expand-clause-floor : goal.returns-in_err-expand-clause-floor
returns-in_err-expand-clause-floor g c =
    floor_on c.in-Some.place c.in-Some.least c.least_open.ensures.same c.level.ensures c.tell.ensures c.rounds.invariant.searched
    (search rules) c.max.ensures c.rounds.invariant.floor

pub returns-in_err-expand_more-clause-floor : goal.returns-in_err-expand_more-clause-floor
returns-in_err-expand_more-clause-floor g c =
    floor_on c.in-Some.place c.in-Some.least c.least_open.ensures.same c.level.ensures c.tell.ensures c.rounds.invariant.searched
    (search rules) c.max.ensures c.rounds.invariant.floor

pub note-requires : goal.note-requires
note-requires g c =
    let board = c.args.pruner.now.board in
    let floor : IsFloor board c.args.pruner.now.cap c.max.result =
    floor_on c.in-Some.place c.in-Some.least c.least_open.ensures.same c.level.ensures c.tell.ensures c.rounds.invariant.searched
    (search rules) c.max.ensures c.rounds.invariant.floor in
    subst (λ (b : Board). NoneHasFewer b c.max.result) (sym c.level-in-Some.ensures) floor.0

pub returns-then-reach-gt0-clause-floor : goal.returns-then-reach-gt0-clause-floor
returns-then-reach-gt0-clause-floor g c =
    floor_on c.in-Some.place c.in-Some.least c.least_open.ensures.same c.level.ensures c.tell.ensures c.rounds.invariant.searched
    (search rules) c.max.ensures c.rounds.invariant.floor
