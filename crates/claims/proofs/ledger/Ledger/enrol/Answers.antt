use Rattle.std.proofs.Common.{rules, suc, ◌+◌, ◌≡◌, sym, ap, ◌∙◌, arith}
use Rattle.std.specs.Prelude.{is_some}
use Rattle.claims.proofs.Seats.{agrees}
use Rattle.claims.proofs.Enrolling.{swaps_seat}
use Rattle.claims.proofs.ledger.Ledger.enrol.Goals as goal

pub swap-is_free-requires : goal.swap-is_free-requires
swap-is_free-requires c =
    let sound = c.drawer.invariant in
    let len = agrees c.drawer.inside c.self.inside _ _ c.drawer.view_is c.self.view_is c.requires c.self.invariant in
    let near = c.if-place-ge-PLACES.false in
    let is = c.from-word.ensures in
    let words = c.self.invariant.0 in
    let word : 1 + c.from-word.result ≡ suc c.args.place = omega arith in (
      search rules,
      omega arith,
      swaps_seat _ _ _ c.args.place (1 + c.from-word.result) c.drawer.inside.seat.me word sound.seated len near
          (ap is_some (sym sound.place) ∙ sym c.if-is_some.ensures),
    )
