use Rattle.std.proofs.Common.{length}
use Rattle.regions.proofs.sums.+excess_of.Given as goal

abbrev pub decreases-excess_of : goal.decreases-excess_of
decreases-excess_of l = length l.jobs.now
