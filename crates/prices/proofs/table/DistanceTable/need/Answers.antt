use Rattle.std.proofs.Common.{arith}
use Rattle.prices.proofs.Sums.{need_least}
use Rattle.prices.proofs.table.DistanceTable.need.Goals as goal

pub returns-clause-low : goal.returns-clause-low
returns-clause-low c = need_least c.args.self.now c.args.tolls.now c.row-row.result.now c.args.square c.args.player c.least_sum.result
    c.row-row.ensures (omega (arith, c.if-row-tolls.false)) c.requires c.least_sum.ensures.each c.least_sum.ensures.most
