use Rattle.std.proofs.Common.{refl, arith}
use Rattle.area.proofs.Widening.{cleared_on, cleared_bit}
use Rattle.area.proofs.rooms.leave_clear.Goals as goal

pub loop-index-init : goal.loop-index-init
loop-index-init c = (refl, λ k j lt. absurd (omega (arith, lt)), λ k le. refl)

pub loop-index-preserved : goal.loop-index-preserved
loop-index-preserved c = cleared_on c.args.squares.now c.args.words.now c.loop-index.words c.loop-index.index _ c.loop-index.invariant (let few =
    c.loop-index.invariant.0 in omega (arith, few, c.loop-index-test.true)) refl (omega arith)

pub returns : goal.returns
returns c = λ q. cleared_bit c.args.squares.now c.args.words.now c.loop-index.words c.loop-index.index q c.loop-index.invariant c.requires (omega arith)
