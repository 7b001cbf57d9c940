use Rattle.std.proofs.Common.{arith}
use Rattle.prices.proofs.lemmas.Looks.{below_next}
use Rattle.regions.specs.inside.Checks.{IsListedAt}
use Rattle.regions.proofs.check.are_squares_listed.Goals as goal

pub loop-index-preserved : goal.loop-index-preserved
loop-index-preserved c =
    below_next (λ q. IsListedAt c.args.table.now c.args.seats.now.boxes q)
    c.loop-index.index c.loop-index.invariant (c.is_listed.ensures c.if-not-is_listed.false)

pub returns : goal.returns
returns c = λ _ q inside. c.loop-index.invariant q (omega (arith, inside))
