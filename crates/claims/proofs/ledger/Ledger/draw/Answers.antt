use Rattle.std.proofs.Common.{rules, sym, ap, ◌∙◌, arith}
use Rattle.std.specs.Prelude.{is_some}
use Rattle.claims.proofs.Seats.{agrees}
use Rattle.claims.proofs.Drawing.{draws_seat}
use Rattle.claims.proofs.ledger.Ledger.draw.Goals as goal

pub draw_next-found-requires : goal.draw_next-found-requires
draw_next-found-requires c =
    let sound = c.drawer.invariant in
    let len = agrees c.drawer.inside c.self.inside _ _ c.drawer.view_is c.self.view_is c.requires c.self.invariant in
    let words = c.self.invariant.0 in
    record {
      seat = (search rules, omega arith);
      step = draws_seat _ _ _ c.drawer.inside.seat.me sound.seated len (ap is_some (sym sound.place) ∙
          c.if-is_none.ensures) (sym sound.spent ∙ c.if-drawer.false);
    }
