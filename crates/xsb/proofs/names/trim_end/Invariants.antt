use Rattle.std.proofs.Common.{◌≡◌, length}
use Rattle.xsb.specs.Boards.{cut_end}
use Rattle.xsb.specs.Names.{is_blank}
use Rattle.xsb.proofs.names.trim_end.Given as goal

abbrev pub invariant-loop-last : goal.invariant-loop-last
invariant-loop-last l = cut_end is_blank l.rest ≡ cut_end is_blank l.bytes

abbrev pub decreases-loop-last : goal.decreases-loop-last
decreases-loop-last l = length l.rest
