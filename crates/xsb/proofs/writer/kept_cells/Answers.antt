use Rattle.std.proofs.Common.{◌+◌, ◌<◌, length, arith, sym, ap, ◌∙◌}
use Rattle.xsb.specs.Boards.{is_floor}
use Rattle.xsb.proofs.CellsByReaders.{kept-floor, kept-other}
use Rattle.xsb.proofs.writer.kept_cells.Goals.{then-not-is_floor, else-not-is_floor}
use Rattle.xsb.proofs.writer.kept_cells.Goals as goal

pub loop-col-preserved : goal.loop-col-preserved
loop-col-preserved c =
    let cells = c.args.level.now.cells in let start = c.args.start in let col = c.loop-col.col in
    let less : start + col < length cells = omega arith in
    let told = sym (ap is_floor c.cell_at.ensures) ∙ sym c.is_floor.ensures in
    elim c.if-not-is_floor.branch [
      | then-not-is_floor w ↦ (w.kept-is ∙ kept-other cells start col less (told ∙ w.if-not-is_floor.true), omega arith)
      | else-not-is_floor w ↦ (w.kept-is ∙ kept-floor cells start col c.loop-col.kept less c.loop-col.invariant.0 (told ∙ w.if-not-is_floor.false), omega arith)
    ]
