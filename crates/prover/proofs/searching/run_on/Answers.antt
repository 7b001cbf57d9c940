use Rattle.std.proofs.Common.{IfOk, subst, sym}
use Rattle.successors.specs.Problems.{Problem}
use Rattle.prices.specs.Timing.{IsLate}
use Rattle.prover.specs.inside.SearchEnds.{IsFloor, Tells}
use Rattle.prover.proofs.searching.run_on.Goals as goal

pub returns-clause-tells : goal.returns-clause-tells
returns-clause-tells g c =
    subst (λ (v : Problem). IfOk c.run_over.result (λ end. Tells v.board v.cap c.args.search.limit
    (IsLate c.args.search.seconds (g.P.Progress.told c.run_over.new.progress)) c.run_over.new.frontier.entries end))
    c.in_ok-problem.ensures c.run_over.ensures.tells

pub run_over-requires-clause-floor : goal.run_over-requires-clause-floor
run_over-requires-clause-floor g c κs within =
    subst (λ (v : Problem). IsFloor v.board v.cap c.args.reach.now) (sym c.in_ok-problem.ensures) c.requires.floor

pub returns-clause-floor : goal.returns-clause-floor
returns-clause-floor g c =
    subst (λ (v : Problem). IsFloor v.board v.cap c.run_over.new.reach) c.in_ok-problem.ensures c.run_over.ensures.floor
