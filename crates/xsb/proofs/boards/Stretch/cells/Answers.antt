use Rattle.std.proofs.Common.{sym, subst, arith}
use Rattle.xsb.specs.Rows.{IsRowLine}
use Rattle.xsb.proofs.BoardCells.{Filling-more, Filling-all, Filling-some}
use Rattle.xsb.proofs.boards.Stretch.cells.Goals.{else-lines-test, then-lines-test+in_default}
use Rattle.xsb.proofs.boards.Stretch.cells.Goals as goal

pub lines-preserved : goal.lines-preserved
lines-preserved c = λ rows has wide.
    Filling-more c.in-Some.raw.now (c.lines.invariant rows has wide) c.lines-test.true c.in-Some.ensures.steps (omega arith)
    (λ made is short. c.in_ok-push_line.ensures made (subst (λ l. IsRowLine l made) (sym c.cut_line.ensures) is) short)

pub returns : goal.returns
returns c = λ rows has wide.
    elim c.lines-test.branch [
      | else-lines-test w ↦ Filling-all (c.lines.invariant rows has wide) w.lines-test.false
      | then-lines-test+in_default w ↦ absurd (Filling-some (c.lines.invariant rows has wide) w.lines-test.true w.in_default.ensures.steps.0)
    ]
