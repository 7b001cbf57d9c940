-- What is left has the same bytes after its first line as the whole text.
use Rattle.std.proofs.Common.{◌≡◌, length}
use Rattle.sokopar.specs.Report.{after_line}
use Rattle.sokopar.proofs.report.after_line.Given as goal

abbrev pub invariant-loop-rest : goal.invariant-loop-rest
invariant-loop-rest l = after_line l.rest ≡ after_line l.text

abbrev pub decreases-loop-rest : goal.decreases-loop-rest
decreases-loop-rest l = length l.rest
