use Rattle.std.proofs.Common.{length}
use Rattle.xsb.proofs.Breaking.{IsPassed}
use Rattle.xsb.proofs.breaks.first_break.Given as goal

abbrev pub invariant-loop-first : goal.invariant-loop-first
invariant-loop-first l = IsPassed l.line l.rest

abbrev pub decreases-loop-first : goal.decreases-loop-first
decreases-loop-first l = length l.rest
