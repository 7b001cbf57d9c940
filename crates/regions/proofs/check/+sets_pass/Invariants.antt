use Rattle.std.proofs.Common.{length}
use Rattle.regions.proofs.check.+sets_pass.Given as goal

abbrev pub decreases-sets_pass : goal.decreases-sets_pass
decreases-sets_pass l = length l.rest.now
