-- Each board brings the end of the range nearer.
use Rattle.std.proofs.Common.{◌-◌}
use Rattle.sokopar.proofs.levels.last_of.Given as goal

abbrev pub decreases-boards : goal.decreases-boards
decreases-boards l = l.to - l.count
