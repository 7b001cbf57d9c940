-- The text with the rows that are left is the whole text.
use Rattle.std.proofs.Common.{◌≡◌, ◌++◌, ◌-◌, flat_map}
use Rattle.xsb.specs.Written.{rows_from}
use Rattle.sokopar.specs.DeadMap.{marked_row}
use Rattle.sokopar.proofs.dead.put_map.Given as goal

abbrev pub invariant-loop : goal.invariant-loop
invariant-loop l =
    l.text ++ flat_map marked_row (rows_from (l.rows - l.counter) l.cols l.rest) ≡ l.fn.text ++ flat_map marked_row (rows_from l.rows l.cols l.marks)
