use Rattle.std.proofs.Common.{arith, ◌∙◌}
use Rattle.std.proofs.lemmas.List.{length-set}
use Rattle.successors.proofs.lemmas.Lists.{each_set}
use Rattle.prover.specs.inside.Rounds.{IsPick}
use Rattle.prover.proofs.Dealing.{each_at}
use Rattle.prover.proofs.lane.do_all.Goals as goal

pub do_pick-requires-clause-pick : goal.do_pick-requires-clause-pick
do_pick-requires-clause-pick c =
    let all = c.loop-index.invariant.all in
    each_at (IsPick c.args.pruner.now c.args.frontier.now.entries) c.loop-index.picks c.loop-index.index (omega (arith, all, c.loop-index-test.true)) c.loop-index.invariant.picks _

pub loop-index-preserved : goal.loop-index-preserved
loop-index-preserved c = record {
  picks = each_set (IsPick c.args.pruner.now c.args.frontier.now.entries) c.loop-index.picks c.loop-index.index c.do_pick.new.pick c.do_pick.ensures.pick c.loop-index.invariant.picks;
  problem = c.do_pick.ensures.problem;
  all = length-set c.loop-index.picks c.loop-index.index c.do_pick.new.pick ∙ c.loop-index.invariant.all;
}
