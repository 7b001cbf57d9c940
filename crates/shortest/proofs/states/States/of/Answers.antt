use Rattle.std.proofs.Common.{arith}
use Rattle.shortest.proofs.states.States.of.Goals as goal

pub invariant_of-result : goal.invariant_of-result
invariant_of-result c = (
  record { listed = c.requires.listing.listed; distinct = c.tell.ensures; fewest = c.requires.fewest; range = omega (arith, c.ranges.most) },
  c.requires.listing.boxes,
  c.requires.listing.squares,
)
