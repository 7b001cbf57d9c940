use Rattle.std.proofs.Common.{◌≡◌, ◌++◌, map, take, drop}
use Rattle.xsb.specs.Rows.{cell_byte}
use Rattle.xsb.proofs.writer.push_row.Given as goal

abbrev pub invariant-loop-col : goal.invariant-loop-col
invariant-loop-col l = l.out.items ≡ l.initial.out.items ++ map cell_byte (take l.col (drop l.start l.level.cells))
