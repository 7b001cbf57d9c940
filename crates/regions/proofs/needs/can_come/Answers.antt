use Rattle.std.proofs.Common.{◌≡◌, true}
use Rattle.regions.proofs.Tolls.{near_at}
use Rattle.regions.proofs.needs.can_come.Goals as goal

pub returns : goal.returns
returns c = near_at c.args.distances.now c.row.result.now c.args.square c.args.player c.goals.result (c.has_less.result ≡ true)
    c.tell.ensures.goals c.row.ensures c.goals.ensures c.has_less.ensures
