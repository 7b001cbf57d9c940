use Rattle.std.proofs.Common.{◌-◌}
use Rattle.prices.proofs.matching.Matching.first_from.Given as goal

abbrev pub decreases-loop-place : goal.decreases-loop-place
decreases-loop-place l = l.count - l.place
