use Rattle.std.proofs.Common.{◌≡◌, length}
use Rattle.xsb.specs.Names.{cut_start, is_blank}
use Rattle.xsb.proofs.names.trim_start.Given as goal

abbrev pub invariant-loop-first : goal.invariant-loop-first
invariant-loop-first l = cut_start is_blank l.rest ≡ cut_start is_blank l.bytes

abbrev pub decreases-loop-first : goal.decreases-loop-first
decreases-loop-first l = length l.rest
