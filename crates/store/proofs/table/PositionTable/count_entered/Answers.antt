use Rattle.std.proofs.Common.{arith}
use Rattle.store.proofs.PendingOffers.{length-found}
use Rattle.store.proofs.table.PositionTable.count_entered.Goals as goal

pub returns : goal.returns
returns g c =
    let a = c.self.inside in
    let n = length-found a.boxes a.squares a.start a.table.entries a.pending.items c.args.self.now c.self.invariant.2 c.self.view_is in
    omega (arith, n.0, c.len.ensures.len)
