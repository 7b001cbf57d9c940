use Rattle.std.proofs.Common.{◌≡◌, ◌++◌}
use Rattle.bstr.specs.Text.{Extends}
use Rattle.xsb.specs.Written.{written}
use Rattle.xsb.proofs.CellsByReaders.{left_from}
use Rattle.xsb.proofs.writer.push_rows.Given as goal

abbrev pub invariant-loop-row : goal.invariant-loop-row
invariant-loop-row l = (l.out.items ++ left_from l.level l.row ≡ l.initial.out.items ++ written l.level) × Extends l.initial.out.items l.out.items
