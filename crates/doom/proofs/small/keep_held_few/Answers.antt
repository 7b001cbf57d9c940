use Rattle.std.proofs.Common.{ℕ, List, sym, subst}
use Rattle.area.specs.Words.{squares_of}
use Rattle.doom.specs.inside.Locking.{IsLargest}
use Rattle.doom.proofs.Passes.{IsPeeling, pass_narrow, peeling_none, peeling_pass, peeling_done}
use Rattle.doom.proofs.small.keep_held_few.Goals as goal

pub loop-init : goal.loop-init
loop-init g c = subst (λ (xs : List ℕ). IsPeeling c.args.holds.now c.args.cols (squares_of c.args.members.now) (squares_of xs)) (sym c.copy_from_slice.ensures.after)
    (peeling_none c.args.holds.now c.args.cols (squares_of c.args.members.now))

pub loop-preserved : goal.loop-preserved
loop-preserved g c =
    peeling_pass c.args.holds.now c.args.cols
    (squares_of c.args.members.now) c.loop.left c.peel_few.new.members c.peel_few.result
    (pass_narrow c.args.holds.now c.args.cols c.loop.left c.peel_few.new.members c.peel_few.result c.requires.narrow c.peel_few.ensures) c.loop.invariant

pub returns : goal.returns
returns g c =
    subst (λ (ws : List ℕ). IsLargest c.args.holds.now c.args.cols (squares_of c.args.members.now) (squares_of ws))
    (sym c.copy_from_slice-2.ensures.after)
    (peeling_done c.args.holds.now c.args.cols
    (squares_of c.args.members.now) c.loop.left c.peel_few.new.members c.peel_few.result c.loop-test.false
    (pass_narrow c.args.holds.now c.args.cols c.loop.left c.peel_few.new.members c.peel_few.result c.requires.narrow c.peel_few.ensures) c.loop.invariant)
