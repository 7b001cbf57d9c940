use Rattle.std.proofs.Common.{◌≡◌, take}
use Rattle.store.specs.FoundView.{open_of}
use Rattle.store.specs.inside.Placing.{rows_of}
use Rattle.store.proofs.closing.rows_from.Given as goal

abbrev pub invariant-loop-index : goal.invariant-loop-index
invariant-loop-index g l = l.rows.items ≡ rows_of 0 (open_of l.start (take l.index l.table.entries))
