use Rattle.std.proofs.Common.{ap, ◌∙◌, arith}
use Rattle.grid.specs.Rising.{is_rising}
use Rattle.successors.proofs.lemmas.Lists.{take_short}
use Rattle.store.proofs.key.Key.position.Goals as goal

pub of_rising-requires-clause-rising : goal.of_rising-requires-clause-rising
of_rising-requires-clause-rising g c =
    ap is_rising (c.as_slice.ensures.value ∙ c.loop-index.invariant.0 ∙
    take_short c.args.self.now.boxes c.loop-index.index (omega (arith, c.loop-index-test.false, c.loop-index.invariant.1, c.loop-index.auto.index-end))) ∙
    c.len-index-end.ensures.rising
