-- The lanes that were dealt to are those whose picks are done and entered.
use Rattle.std.proofs.Common.{◌≡◌, ◌∙◌, arith, length, subst, sym}
use Rattle.std.proofs.lemmas.Result.{on_ok_weaker}
use Rattle.std.specs.Vec.{with_items}
use Rattle.store.specs.Visited.{VisitedView}
use Rattle.prover.specs.inside.Rounds.{AreLanes, IsLane}
use Rattle.prover.proofs.Dealing.{each_back, lanes_on}
use Rattle.prover.proofs.rounds.expand_more.Goals as goal

pub deal-requires-clause-lanes : goal.deal-requires-clause-lanes
deal-requires-clause-lanes g c =
    let all = c.args.frontier.now.entries in
    subst (AreLanes c.args.pruner.now all) (sym c.as_mut_slice.ensures.value) (c.in_ok-add_lanes.ensures.lanes all c.requires.desk.lanes)

pub do_each-requires-clause-lanes : goal.do_each-requires-clause-lanes
do_each-requires-clause-lanes g c κs within =
    let dealt = c.deal.new.lanes in
    let all = c.in_ok-count.ensures.all in
    let size = c.as_mut_slice.ensures.len in
    let long : length dealt ≡ c.add_lanes.new.lanes.len = omega (arith, all, size) in
    subst (λ (v : VisitedView). AreLanes c.args.pruner.now v.entries c.as_mut_slice-2.result.now) (sym c.in_ok-count.ensures.same)
    (subst (AreLanes c.args.pruner.now c.args.frontier.now.entries) (sym c.as_mut_slice-2.ensures.value)
    (each_back (IsLane c.args.pruner.now c.args.frontier.now.entries) c.add_lanes.new.lanes dealt long c.in_ok-count.ensures.lanes))

pub enter_each-requires-clause-lanes : goal.enter_each-requires-clause-lanes
enter_each-requires-clause-lanes g c =
    let done = c.do_each.new.lanes in
    let dealt = with_items c.add_lanes.new.lanes c.deal.new.lanes in
    let all = c.do_each.ensures.all in
    let size = c.as_mut_slice-2.ensures.len in
    let long : length done ≡ dealt.len = omega (arith, all, size) in
    let all = c.deal.new.frontier.entries in
    subst (AreLanes c.args.pruner.now all) (sym c.as_slice.ensures.value)
    (each_back (IsLane c.args.pruner.now all) dealt done long c.do_each.ensures.lanes)

pub returns-clause-desk : goal.returns-clause-desk
returns-clause-desk g c =
    let done = c.do_each.new.lanes in
    let dealt = with_items c.add_lanes.new.lanes c.deal.new.lanes in
    let all = c.do_each.ensures.all in
    let size = c.as_mut_slice-2.ensures.len in
    let long : length done ≡ dealt.len = omega (arith, all, size) in
    let all = c.deal.new.frontier.entries in
    on_ok_weaker c.enter_each.result (λ on. record {
      problem = c.enter_each.ensures.problem ∙ c.requires.desk.problem;
      lanes = lanes_on c.args.pruner.now all c.enter_each.new.frontier.entries (with_items dealt done).items on.still
          (each_back (IsLane c.args.pruner.now all) dealt done long c.do_each.ensures.lanes);
    }) c.enter_each.ensures.goes_on
