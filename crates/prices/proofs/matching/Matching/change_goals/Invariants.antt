use Rattle.std.proofs.Common.{◌<◌}
use Rattle.grid.specs.declared.limits.TheConstants.{MAX_BOXES}
use Rattle.prices.proofs.matching.Matching.change_goals.Given as goal

abbrev pub invariant-loop : goal.invariant-loop
invariant-loop l = l.goal < MAX_BOXES
