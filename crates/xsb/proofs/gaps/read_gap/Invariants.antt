use Rattle.std.proofs.Common.{ℕ, List, length}
use Rattle.xsb.specs.inside.Gaps.{ReadsTexts}
use Rattle.xsb.proofs.gaps.read_gap.Given as goal

abbrev pub invariant-texts : goal.invariant-texts
invariant-texts l = (texts : List (List ℕ)) × ReadsTexts l.initial.lines l.lines (record { comment = l.gap.0; title = l.gap.1.0 }) texts

abbrev pub decreases-texts : goal.decreases-texts
decreases-texts l = length l.lines.rest
