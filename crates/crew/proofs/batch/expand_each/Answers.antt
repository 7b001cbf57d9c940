use Rattle.std.proofs.Common.{◌∙◌, refl, arith}
use Rattle.crew.proofs.Batches.{expanded_more}
use Rattle.crew.proofs.batch.expand_each.Goals as goal

pub loop-place-preserved : goal.loop-place-preserved
loop-place-preserved g c = (
  expanded_more c.args.shared.now.layer c.args.ranks.now c.loop-place.place _ c.loop-place.parcels c.expand_into.new.parcel c.loop-place-test.true
      (omega (arith, c.loop-place-test.true, c.loop-place.auto.parcels, c.requires.fits)) refl c.expand_into.ensures.of c.loop-place.invariant.0,
  c.expand_into.ensures.size ∙ c.loop-place.invariant.1,
)
