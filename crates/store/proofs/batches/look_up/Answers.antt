use Rattle.std.proofs.Common.{arith}
use Rattle.std.proofs.lemmas.List.{length-set}
use Rattle.store.specs.inside.Indices.{IsIndexOf}
use Rattle.store.proofs.Indices.{each_written}
use Rattle.store.proofs.batches.look_up.Goals as goal

pub loop-nth-preserved : goal.loop-nth-preserved
loop-nth-preserved g c = (
  omega (arith, c.loop-nth.invariant.0, length-set c.loop-nth.indices c.loop-nth.nth c.index_of.result),
  each_written (λ offer index. IsIndexOf c.args.table.now.entries index offer.0) c.args.offers.now c.loop-nth.indices c.loop-nth.nth c.index_of.result
      c.index-offers-nth.result c.loop-nth-test.true c.loop-nth.invariant.0 c.index-offers-nth.is c.index_of.ensures c.loop-nth.invariant.1,
)
