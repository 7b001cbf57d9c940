-- The lines so far are those of the boards so far, and so with the lawful levels.
use Rattle.xsb.specs.inside.Progress.{lines_left}
use Rattle.sokopar.proofs.Listings.{HasChecked}
use Rattle.sokopar.proofs.check.check_report.Given as goal

abbrev pub invariant-boards : goal.invariant-boards
invariant-boards l = HasChecked l.bytes l.collection l.text l.levels l.good

abbrev pub decreases-boards : goal.decreases-boards
decreases-boards l = lines_left l.collection
