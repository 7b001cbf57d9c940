use Rattle.std.proofs.lemmas.Result.{on_ok_weaker}
use Rattle.xsb.proofs.RowItems.{IsPushed-more, IsPushed-all}
use Rattle.xsb.proofs.rows.push_row.Goals as goal

pub loop-run-preserved : goal.loop-run-preserved
loop-run-preserved c = (_, IsPushed-more c.in-Some.run' c.loop-run.invariant.1 c.in-Some.ensures c.min-count.ensures c.in_ok-push_cells.ensures)

pub returns : goal.returns
returns c = λ row is short. on_ok_weaker c.push_cells-2.result
    (λ made. IsPushed-all c.loop-run.invariant.1 c.in_default.ensures made row is short) c.push_cells-2.ensures
