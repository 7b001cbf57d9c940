use Rattle.std.proofs.Common.{◌++◌, ◌*◌, ◌+◌, ℕ, List, [], take, drop, sym, ap, ◌∙◌, append_assoc, arith}
use Rattle.std.proofs.lemmas.List.{append-nil}
use Rattle.xsb.specs.inside.Bytes.{written_row}
use Rattle.xsb.proofs.CellsByReaders.{left_from, left-none, left-more}
use Rattle.bstr.specs.Text.{Extends}
use Rattle.xsb.proofs.writer.push_rows.Goals as goal

-- what extends an extension extends
extends_more : (xs ys zs : List ℕ) → Extends xs ys → Extends ys zs → Extends xs zs
extends_more xs ys zs a b = (a.0 ++ b.0, b.1 ∙ ap (λ l. l ++ b.0) a.1 ∙ append_assoc xs a.0 b.0)

pub loop-row-init : goal.loop-row-init
loop-row-init c = (ap (λ l. c.args.out.now.items ++ l) (left-none c.args.level.now), ([], sym (append-nil c.args.out.now.items)))

pub loop-row-preserved : goal.loop-row-preserved
loop-row-preserved c =
    let board = c.args.level.now in let row = c.loop-row.row in
    let width = c.cols.ensures in
    let pushed = c.in_ok-push_row.ensures.ok ∙ ap (λ n. c.loop-row.out.items ++ written_row (take board.cols (drop (row * n) board.cells))) width in (
      ap (λ o. o ++ left_from board (row + 1)) pushed ∙ append_assoc c.loop-row.out.items _ (left_from board (row + 1))
          ∙ ap (λ l. c.loop-row.out.items ++ l) (sym (left-more board row (omega arith))) ∙ c.loop-row.invariant.0,
      (
        _,
        pushed ∙ ap (λ o. o ++ written_row (take board.cols (drop (row * board.cols) board.cells))) c.loop-row.invariant.1.1 ∙
            append_assoc c.args.out.now.items c.loop-row.invariant.1.0 _,
      ),
    )
