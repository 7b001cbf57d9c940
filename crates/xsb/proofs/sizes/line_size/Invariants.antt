use Rattle.std.proofs.Common.{List, map}
use Rattle.grid.specs.declared.cell.Cell.{Cell}
use Rattle.xsb.proofs.RowLines.{IsCounted}
use Rattle.xsb.proofs.sizes.line_size.Given as goal

abbrev pub invariant-loop-piece : goal.invariant-loop-piece
invariant-loop-piece l = (rows : List (List Cell)) × IsCounted (map (λ p. p.now) l.yielded) rows l.size
