use Rattle.std.proofs.Common.{◌≡◌, ◌∙◌, arith}
use Rattle.std.proofs.lemmas.List.{length-set}
use Rattle.store.specs.inside.KeyRows.{key_digest}
use Rattle.store.proofs.Indices.{each_written}
use Rattle.store.proofs.batches.digest_all.Goals as goal

pub loop-nth-preserved : goal.loop-nth-preserved
loop-nth-preserved g c = (
  length-set c.loop-nth.digests c.loop-nth.nth c.digest.result ∙ c.loop-nth.invariant.0,
  each_written (λ offer digest. digest ≡ key_digest g.row.N g.row.M offer.0) c.args.offers.now c.loop-nth.digests c.loop-nth.nth c.digest.result
      c.index-offers-nth.result c.loop-nth-test.true (omega (arith, c.requires.capacity, c.loop-nth.invariant.0)) c.index-offers-nth.is c.digest.ensures
      c.loop-nth.invariant.1,
)
