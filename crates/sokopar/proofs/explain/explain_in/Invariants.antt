-- The text so far tells of the levels so far.
use Rattle.xsb.specs.inside.Progress.{lines_left}
use Rattle.sokopar.proofs.Explanations.{HasExplained}
use Rattle.sokopar.proofs.explain.explain_in.Given as goal

abbrev pub invariant-boards : goal.invariant-boards
invariant-boards l = HasExplained l.bytes l.wanted l.collection l.page l.broken l.levels l.good

abbrev pub decreases-boards : goal.decreases-boards
decreases-boards l = lines_left l.collection
