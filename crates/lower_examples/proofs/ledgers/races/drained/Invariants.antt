use Rattle.std.proofs.Common.{◌≡◌}
use Rattle.lower_examples.proofs.ledgers.races.drained.Given as goal

abbrev pub invariant-loop : goal.invariant-loop
invariant-loop g l = l.drawer.ledger ≡ l.ledger
