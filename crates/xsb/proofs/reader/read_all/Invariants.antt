use Rattle.std.proofs.Common.{ℕ, List, []}
use Rattle.xsb.specs.inside.Progress.{HasRead, lines_left}
use Rattle.xsb.proofs.BoardByBoard.{HasEntries}
use Rattle.xsb.proofs.reader.read_all.Given as goal

abbrev pub invariant-boards : goal.invariant-boards
invariant-boards l = (bytes : List ℕ) → HasRead bytes l.fn.collection [] → HasEntries bytes l.collection l.entries.items

abbrev pub decreases-boards : goal.decreases-boards
decreases-boards l = lines_left l.collection
