use Rattle.std.proofs.Common.{sym, ap, ◌∙◌, arith}
use Rattle.store.specs.inside.Placing.{rows_of}
use Rattle.store.proofs.Exchanging.{one_row}
use Rattle.store.proofs.Tails.{open_none}
use Rattle.store.proofs.closing.rows_from.Goals as goal

pub loop-index-init : goal.loop-index-init
loop-index-init g c = c.in_ok-rows.ensures.items ∙ ap (rows_of 0) (sym (open_none c.args.start c.args.table.now.entries))

pub loop-index-preserved : goal.loop-index-preserved
loop-index-preserved g c =
    one_row c.args.start c.loop-index.index c.args.table.now.entries c.loop-index.rows.items c.push.new.self.items c.origin_at.result (omega arith)
    (omega (arith, c.loop-index-test.true, c.len-index-end.ensures.len)) c.loop-index.invariant c.origin_at.ensures c.in_ok-push.ensures.items
