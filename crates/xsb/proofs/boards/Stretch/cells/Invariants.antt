use Rattle.std.proofs.Common.{List, ◌≤◌}
use Rattle.grid.specs.declared.cell.Cell.{Cell}
use Rattle.xsb.specs.Boards.{cols_of}
use Rattle.xsb.specs.inside.Stretches.{HasRows}
use Rattle.xsb.proofs.BoardCells.{Filling}
use Rattle.xsb.proofs.boards.Stretch.cells.Given as goal

abbrev pub invariant-lines : goal.invariant-lines
invariant-lines l = (rows : List (List Cell)) → HasRows l.self rows → cols_of rows ≤ l.self.size.cols →
    Filling l.self.size.cols l.self.count l.counter l.lines l.cells.items rows
