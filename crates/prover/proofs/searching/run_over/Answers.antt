use Rattle.std.proofs.Common.{IfOk, subst, sym}
use Rattle.successors.specs.Problems.{Problem}
use Rattle.prices.specs.Timing.{IsLate}
use Rattle.prover.specs.inside.SearchEnds.{IsFloor, Tells}
use Rattle.prover.proofs.searching.run_over.Goals as goal

pub returns-clause-tells : goal.returns-clause-tells
returns-clause-tells g c =
    subst (λ (v : Problem). IfOk c.run_all.result (λ end. Tells v.board v.cap c.args.limit
    (IsLate c.args.seconds (g.P.Progress.told c.run_all.new.progress)) c.run_all.new.frontier.entries end))
    c.in_ok-pruner.ensures c.run_all.ensures.tells

pub run_all-requires-clause-floor : goal.run_all-requires-clause-floor
run_all-requires-clause-floor g c κs within =
    subst (λ (v : Problem). IsFloor v.board v.cap c.args.reach.now) (sym c.in_ok-pruner.ensures) c.requires.floor

pub returns-clause-floor : goal.returns-clause-floor
returns-clause-floor g c =
    subst (λ (v : Problem). IsFloor v.board v.cap c.run_all.new.reach) c.in_ok-pruner.ensures c.run_all.ensures.floor
