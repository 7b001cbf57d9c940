use Rattle.std.proofs.Common.{◌/◌, length}
use Rattle.std.proofs.lemmas.Bool.{le-ltb}
use Rattle.grid.specs.declared.limits.TheConstants.{MAX_ROWS, MAX_COLS}
use Rattle.grid.proofs.judging.cell_fault.Goals as goal

pub returns : goal.returns
returns c =
    rw (le-ltb MAX_ROWS (length c.args.cells.now / c.args.cols) c.if-cells-cols-gt-MAX_ROWS.false, le-ltb MAX_COLS c.args.cols c.if-cols-gt-MAX_COLS.false)
    (c.count_fault.ensures c.args.cols)
