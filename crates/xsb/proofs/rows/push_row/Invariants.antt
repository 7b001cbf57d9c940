use Rattle.std.proofs.Common.{length, List}
use Rattle.grid.specs.declared.cell.Cell.{Cell}
use Rattle.xsb.proofs.RowItems.{IsPushed}
use Rattle.xsb.proofs.rows.push_row.Given as goal

abbrev pub invariant-loop-run : goal.invariant-loop-run
invariant-loop-run l = (front : List Cell) × IsPushed l.piece l.rest front l.cols l.room l.initial.cells.items l.cells.items

abbrev pub decreases-loop-run : goal.decreases-loop-run
decreases-loop-run l = length l.rest
