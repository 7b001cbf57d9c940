use Rattle.std.proofs.Common.{length}
use Rattle.regions.proofs.sums.+waste_of.Given as goal

abbrev pub decreases-waste_of : goal.decreases-waste_of
decreases-waste_of l = length l.jobs.now
