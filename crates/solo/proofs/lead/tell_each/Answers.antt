use Rattle.std.proofs.Common.{arith}
use Rattle.std.proofs.lemmas.Option.{slice_get_within}
use Rattle.solo.proofs.ReadingBack.{whole_upto}
use Rattle.solo.proofs.lead.tell_each.Goals as goal

pub loop-layer-init : goal.loop-layer-init
loop-layer-init c = λ j layer lt at. absurd (omega (arith, lt))

pub loop-layer-preserved : goal.loop-layer-preserved
loop-layer-preserved c =
    whole_upto c.args.layers.now c.loop-layer.layer-index c.layer-item.result c.loop-layer-test.true c.layer-item.is c.tell.ensures c.loop-layer.invariant

pub returns : goal.returns
returns c = λ j layer at. c.loop-layer.invariant j layer (let within = slice_get_within c.args.layers.now j layer at in
    omega (arith, within, c.loop-layer-test.false)) at
