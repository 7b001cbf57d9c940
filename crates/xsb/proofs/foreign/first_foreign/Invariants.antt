use Rattle.std.proofs.Common.{length}
use Rattle.xsb.specs.inside.Cursors.{IsAt}
use Rattle.xsb.proofs.foreign.first_foreign.Given as goal

abbrev pub invariant-lines : goal.invariant-lines
invariant-lines l = IsAt l.bytes l.lines

abbrev pub decreases-lines : goal.decreases-lines
decreases-lines l = length l.lines.rest
