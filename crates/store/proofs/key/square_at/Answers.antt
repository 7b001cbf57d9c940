use Rattle.std.proofs.Common.{ap, Some, sym, ◌∙◌, arith}
use Rattle.store.proofs.Bytes.{joined_at, joined_past}
use Rattle.store.proofs.key.square_at.Goals as goal

pub returns-then-index-high : goal.returns-then-index-high
returns-then-index-high c =
    let past = joined_past c.args.low.now c.args.high.now c.args.index c.byte_at-least.result c.byte_at-least.ensures (omega (arith, c.if-index-high.true)) in
    past ∙ ap Some (omega (arith, c.square_of.ensures))

pub returns : goal.returns
returns c =
    joined_at c.args.low.now c.args.high.now c.args.index c.byte_at-least.result c.byte_at-most.result c.byte_at-least.ensures c.byte_at-most.ensures ∙
    ap Some (sym c.square_of-2.ensures)
