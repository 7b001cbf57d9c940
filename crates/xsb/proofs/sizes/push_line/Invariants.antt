use Rattle.std.proofs.Common.{length}
use Rattle.xsb.proofs.RowLines.{PushesRows}
use Rattle.xsb.proofs.sizes.push_line.Given as goal

abbrev pub invariant-loop-piece : goal.invariant-loop-piece
invariant-loop-piece l = PushesRows l.line l.cols (length l.yielded) l.initial.cells.items l.cells.items
