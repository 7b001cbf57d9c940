use Rattle.std.proofs.Common.{arith}
use Rattle.prices.proofs.Sums.{needs_above}
use Rattle.prices.proofs.distances.Distances.needs_above.Goals as goal

pub returns : goal.returns
returns c = rw (← c.self.view_is, c.saturating_sub.ensures)
    (needs_above c.self.inside.level c.self.inside.table c.args.tolls.now c.args.position.now _ _ c.self.invariant.1
    (omega arith) (rw (c.boxes.ensures.squares, c.player.ensures) at c.needs-needs.ensures) c.sum.ensures.value)
