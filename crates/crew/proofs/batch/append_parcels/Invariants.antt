use Rattle.std.proofs.Common.{◌≡◌}
use Rattle.crew.proofs.batch.append_parcels.Given as goal

abbrev pub invariant-loop : goal.invariant-loop
invariant-loop g l = l.scratch.size ≡ l.fn.scratch.size
