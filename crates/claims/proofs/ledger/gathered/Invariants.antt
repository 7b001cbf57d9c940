use Rattle.std.proofs.Common.{◌≡◌, []}
use Rattle.claims.specs.Audit.{hands_of}
use Rattle.claims.specs.inside.Views.{view_of}
use Rattle.claims.proofs.ledger.gathered.Given as goal

abbrev pub invariant-loop-drawer : goal.invariant-loop-drawer
invariant-loop-drawer l = record {
  table : l.seat.table_id ≡ l.shared.table_id;
  hands : l.seat.me ≡ (view_of l.shared.key (hands_of l.yielded), []);
}
