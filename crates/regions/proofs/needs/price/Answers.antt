use Rattle.regions.proofs.Tolls.{price_is}
use Rattle.regions.proofs.needs.price.Goals as goal

pub returns : goal.returns
returns c = price_is c.args.distances.now c.args.tolls.now c.goals.result c.first_sum.result c.tell.ensures.goals c.goals.ensures c.first_sum.ensures
