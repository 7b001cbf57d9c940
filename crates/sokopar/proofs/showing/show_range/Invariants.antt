-- The levels so far are shown, and whether one of them is faulty.
use Rattle.xsb.specs.inside.Progress.{lines_left}
use Rattle.sokopar.proofs.Shown.{HasShown}
use Rattle.sokopar.proofs.showing.show_range.Given as goal

abbrev pub invariant-boards : goal.invariant-boards
invariant-boards l = HasShown l.from l.to l.bytes l.collection l.text l.number l.faulty

abbrev pub decreases-boards : goal.decreases-boards
decreases-boards l = lines_left l.collection
