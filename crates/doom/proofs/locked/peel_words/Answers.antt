use Rattle.std.proofs.Common.{refl, arith}
use Rattle.doom.proofs.Passes.{IsBefore, pass_none, pass_more, pass_done}
use Rattle.doom.proofs.locked.peel_words.Goals as goal

pub loop-index-init : goal.loop-index-init
loop-index-init c = pass_none c.args.holds.now c.args.cols (IsBefore 0) c.args.members.now (λ k lt. omega (arith, lt))

pub loop-index-preserved : goal.loop-index-preserved
loop-index-preserved c = pass_more c.args.holds.now c.args.cols c.loop-index.index c.args.members.now c.loop-index.members c.peel_word-went.new.members
    c.loop-index.went c.peel_word-went.result _ refl c.peel_word-went.ensures c.loop-index.invariant

pub returns : goal.returns
returns c = pass_done c.args.holds.now c.args.cols c.loop-index.index c.args.members.now c.loop-index.members c.loop-index.went c.loop-index-test.false
    c.loop-index.invariant
