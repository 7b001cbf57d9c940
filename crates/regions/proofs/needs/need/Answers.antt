use Rattle.regions.proofs.Tolls.{need_is}
use Rattle.regions.proofs.needs.need.Goals as goal

pub returns-clause-value : goal.returns-clause-value
returns-clause-value c = need_is c.args.distances.now c.args.tolls.now c.row.result.now c.args.square c.args.player c.goals.result c.least_sum.result
    c.tell.ensures.goals c.row.ensures c.goals.ensures c.least_sum.ensures.value
