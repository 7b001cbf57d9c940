use Rattle.std.proofs.Common.{false, arith}
use Rattle.area.proofs.Widening.{passing_first, passing_next, passing_last}
use Rattle.area.proofs.rooms.round.Goals as goal

pub returns-then-this-eq0 : goal.returns-then-this-eq0
returns-then-this-eq0 g c =
    passing_last c.args.cols c.args.free.now 0 c.args.words.now c.args.words.now false (omega (arith, c.told-free, c.if-this-eq0.true))
    (passing_first c.args.cols c.args.free.now c.args.words.now)

pub returns-then-this-eq1 : goal.returns-then-this-eq1
returns-then-this-eq1 g c =
    passing_last c.args.cols c.args.free.now 1 c.args.words.now c.visit_few-first.new.words c.visit_few-first.result
    (omega (arith, c.told-free, c.if-this-eq1.true))
    (passing_next c.args.cols c.args.free.now 0 c.args.words.now c.args.words.now c.visit_few-first.new.words false c.visit_few-first.result
    (passing_first c.args.cols c.args.free.now c.args.words.now) c.visit_few-first.ensures)

pub returns : goal.returns
returns g c =
    passing_last c.args.cols c.args.free.now 2 c.args.words.now c.visit_few-second.new.words _ (omega (arith, c.told-free, c.requires.few))
    (passing_next c.args.cols c.args.free.now 1 c.args.words.now c.visit_few-first.new.words c.visit_few-second.new.words c.visit_few-first.result
    c.visit_few-second.result
    (passing_next c.args.cols c.args.free.now 0 c.args.words.now c.args.words.now c.visit_few-first.new.words false c.visit_few-first.result
    (passing_first c.args.cols c.args.free.now c.args.words.now) c.visit_few-first.ensures) c.visit_few-second.ensures)
