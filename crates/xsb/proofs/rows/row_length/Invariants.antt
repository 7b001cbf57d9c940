use Rattle.std.proofs.Common.{length, List}
use Rattle.grid.specs.declared.cell.Cell.{Cell}
use Rattle.xsb.proofs.RowItems.{IsMeasured}
use Rattle.xsb.proofs.rows.row_length.Given as goal

abbrev pub invariant-loop-rest : goal.invariant-loop-rest
invariant-loop-rest l = (front : List Cell) × IsMeasured l.piece l.rest front l.length l.kept

abbrev pub decreases-loop-rest : goal.decreases-loop-rest
decreases-loop-rest l = length l.rest
