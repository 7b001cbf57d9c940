use Rattle.std.proofs.Common.{false, refl, arith}
use Rattle.doom.proofs.Passes.{IsBefore, pass_none, pass_more, pass_done}
use Rattle.doom.proofs.small.peel_few.Goals as goal

pub returns-then-this-eq1 : goal.returns-then-this-eq1
returns-then-this-eq1 g c =
    pass_done c.args.holds.now c.args.cols 1 c.args.members.now c.peel_word.new.members c.peel_word.result (omega (arith, c.told-members, c.if-this-eq1.true))
    (pass_more c.args.holds.now c.args.cols 0 c.args.members.now c.args.members.now c.peel_word.new.members false c.peel_word.result _ refl
    c.peel_word.ensures (pass_none c.args.holds.now c.args.cols (IsBefore 0) c.args.members.now (λ k lt. omega (arith, lt))))

pub returns-then-this-eq2 : goal.returns-then-this-eq2
returns-then-this-eq2 g c =
    pass_done c.args.holds.now c.args.cols 2 c.args.members.now c.peel_word-second.new.members _ (omega (arith, c.told-members, c.if-this-eq2.true))
    (pass_more c.args.holds.now c.args.cols 1 c.args.members.now c.peel_word-first.new.members c.peel_word-second.new.members c.peel_word-first.result
    c.peel_word-second.result _ refl c.peel_word-second.ensures
    (pass_more c.args.holds.now c.args.cols 0 c.args.members.now c.args.members.now c.peel_word-first.new.members false c.peel_word-first.result _ refl
    c.peel_word-first.ensures (pass_none c.args.holds.now c.args.cols (IsBefore 0) c.args.members.now (λ k lt. omega (arith, lt)))))
