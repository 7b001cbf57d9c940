use Rattle.std.proofs.Common.{rules}
use Rattle.prices.proofs.distances.Distances.of.Goals as goal

pub invariant_of-result : goal.invariant_of-result
invariant_of-result c = rw c.in_ok-copy.ensures (c.make_sure.ensures.far, search rules, c.make_sure.ensures.away)
