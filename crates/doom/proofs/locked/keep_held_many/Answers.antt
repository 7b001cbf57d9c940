use Rattle.area.specs.Words.{squares_of}
use Rattle.doom.proofs.Passes.{peeling_none, peeling_pass, peeling_done}
use Rattle.doom.proofs.locked.keep_held_many.Goals as goal

pub loop-init : goal.loop-init
loop-init c = peeling_none c.args.holds.now c.args.cols (squares_of c.args.members.now)

pub returns : goal.returns
returns c = peeling_done c.args.holds.now c.args.cols
    (squares_of c.args.members.now) c.loop.members c.peel.new.members c.peel.result c.loop-test.false c.peel.ensures c.loop.invariant

pub loop-preserved : goal.loop-preserved
loop-preserved c = peeling_pass c.args.holds.now c.args.cols
    (squares_of c.args.members.now) c.loop.members c.peel.new.members c.peel.result c.peel.ensures c.loop.invariant
