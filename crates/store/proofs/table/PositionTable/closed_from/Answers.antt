use Rattle.std.proofs.Common.{rules, arith}
use Rattle.store.proofs.Tails.{seen_long}
use Rattle.store.proofs.table.PositionTable.closed_from.Goals as goal

pub copy_from-requires : goal.copy_from-requires
copy_from-requires g c =
    let a = c.self.inside in (
      search rules,
      (
        c.self.invariant.0,
        (
          omega (arith, c.requires, seen_long a.boxes a.squares a.start a.table.entries a.pending.items c.args.self.now c.self.invariant.2 c.self.view_is),
          (c.self.invariant.2.within, omega (arith, c.self.invariant.0.0, c.self.invariant.1.capacity)),
        ),
      ),
    )
