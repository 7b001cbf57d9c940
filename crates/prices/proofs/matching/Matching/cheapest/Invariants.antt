use Rattle.std.proofs.Common.{◌<◌}
use Rattle.grid.specs.declared.limits.TheConstants.{MAX_BOXES}
use Rattle.prices.proofs.matching.Matching.cheapest.Given as goal

abbrev pub invariant-loop-goal : goal.invariant-loop-goal
invariant-loop-goal l = l.found < MAX_BOXES
