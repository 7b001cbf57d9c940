use Rattle.std.proofs.Common.{refl}
use Rattle.prover.proofs.Dealing.{picks_push}
use Rattle.prover.proofs.lane.Lane.add.Goals as goal

pub returns : goal.returns
returns c = λ all lane. record {
  problem = lane.problem;
  picks = picks_push c.args.pruner.now all c.args.self.now.picks.items c.push.new.self.items _ c.in_ok-push.ensures.items refl c.requires lane.picks;
}
