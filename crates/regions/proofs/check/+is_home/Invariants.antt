use Rattle.std.proofs.Common.{length}
use Rattle.regions.proofs.check.+is_home.Given as goal

abbrev pub decreases-is_home : goal.decreases-is_home
decreases-is_home l = length l.seats.now
