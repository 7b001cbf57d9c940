use Rattle.std.proofs.Common.{arith}
use Rattle.claims.proofs.Auditing.{audits_seat}
use Rattle.claims.proofs.ledger.Ledger.audit.Goals as goal

pub load-requires : goal.load-requires
load-requires c = let words = c.self.invariant.0 in
    (c.gathered-seat.ensures.table, omega arith, audits_seat _ _ _ _ _ c.gathered-seat.ensures.hands)
