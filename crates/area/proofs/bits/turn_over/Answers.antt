use Rattle.std.proofs.Common.{refl, arith}
use Rattle.area.proofs.Chains.{turned_bit, turned_on}
use Rattle.area.proofs.bits.turn_over.Goals as goal

pub loop-index-preserved : goal.loop-index-preserved
loop-index-preserved c = turned_on c.args.words.now c.loop-index.words c.loop-index.index _ c.loop-index.invariant (let few = c.loop-index.invariant.0 in
    omega (arith, few, c.loop-index-test.true)) refl (omega arith)

pub returns : goal.returns
returns c = λ q lt. turned_bit c.args.words.now c.loop-index.words c.loop-index.index q c.loop-index.invariant (omega arith) lt
