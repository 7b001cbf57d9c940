use Rattle.std.proofs.Common.{drop, ◌∙◌, arith}
use Rattle.std.proofs.lemmas.List.{length-set}
use Rattle.store.specs.inside.KeyRows.{joined_bytes}
use Rattle.store.proofs.Bytes.{behind_first, one_written}
use Rattle.store.proofs.key.write_boxes.Goals as goal

pub loop-index-preserved : goal.loop-index-preserved
loop-index-preserved c =
    let row = c.loop-index.row in let index = c.loop-index.index in let x = c.square_at-square.result in
    let all = joined_bytes c.args.low.now c.args.high.now in (
      one_written row (drop 1 all) index x c.loop-index.invariant.0 (behind_first all index x c.square_at-square.ensures)
          (omega (arith, c.loop-index.invariant.1, c.requires.capacity, c.loop-index-test.true, c.loop-index.auto.index-end)),
      length-set row index x ∙ c.loop-index.invariant.1,
    )
