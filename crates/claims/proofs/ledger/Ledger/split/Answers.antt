use Rattle.std.proofs.Common.{rules}
use Rattle.claims.proofs.Seats.{agrees, splits_newcomer}
use Rattle.claims.proofs.ledger.Ledger.split.Goals as goal

pub split_seat-seat-requires : goal.split_seat-seat-requires
split_seat-seat-requires c =
    let len = agrees c.kept.inside c.self.inside _ _ c.kept.view_is c.self.view_is c.requires.0 c.self.invariant in
    (search rules, search rules, splits_newcomer _ _ c.kept.inside.seat.me len)
