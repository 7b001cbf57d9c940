use Rattle.std.proofs.Common.{◌≤◌}
use Rattle.shortest.proofs.improving.push_count.Given as goal

abbrev pub invariant-loop-letter : goal.invariant-loop-letter
invariant-loop-letter l = l.count ≤ l.letter-index
