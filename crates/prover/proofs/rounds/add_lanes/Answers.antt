use Rattle.std.proofs.Common.{[], ◌∷◌, ap, arith, length, sym, subst, List}
use Rattle.std.proofs.lemmas.List.{length-append}
use Rattle.successors.proofs.lemmas.Lists.{each_push}
use Rattle.prover.specs.declared.lane.Lane.{Lane}
use Rattle.prover.specs.inside.Rounds.{AreLanes, IsLane}
use Rattle.prover.proofs.rounds.add_lanes.Goals as goal

pub loop-preserved : goal.loop-preserved
loop-preserved c =
    let problem = c.args.pruner.now in
    let old = c.loop.lanes.items in
    let lane = c.in_ok-lane.lane in
    let items = c.in_ok-push.ensures.items in
    let more = c.loop.invariant.more in
    let size = ap (λ (xs : List Lane). length xs) items in
    let long = length-append old (lane ∷ []) in
    record {
      lanes = λ all start. subst (AreLanes problem all) (sym items) (each_push (IsLane problem all) old lane (c.in_ok-lane.ensures all) (c.loop.invariant.lanes all start));
      more = omega (arith, more, size, long);
    }
