-- What was chosen so far is the level of that number of the boards so far.
use Rattle.xsb.specs.inside.Progress.{lines_left}
use Rattle.sokopar.proofs.Listings.{HasLooked}
use Rattle.sokopar.proofs.listing.level_of.Given as goal

abbrev pub invariant-boards : goal.invariant-boards
invariant-boards l = HasLooked l.bytes l.collection l.number l.count l.chosen

abbrev pub decreases-boards : goal.decreases-boards
decreases-boards l = lines_left l.collection
