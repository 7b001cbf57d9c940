use Rattle.std.proofs.Common.{◌≡◌, drop}
use Rattle.prices.specs.inside.Tables.{row_by}
use Rattle.prices.proofs.table.row_by.Given as goal

abbrev pub invariant-loop-side : goal.invariant-loop-side
invariant-loop-side l = row_by (drop l.side-index l.sides) l.number l.other ≡ row_by l.sides l.number l.other
