use Rattle.std.proofs.Common.{arith}
use Rattle.area.specs.inside.Flooding.{PassesOn}
use Rattle.area.proofs.Widening.{all_ways, visit_full, visit_still, visit_grown}
use Rattle.area.proofs.rooms.visit.Goals as goal

pub returns-then-old-clear : goal.returns-then-old-clear
returns-then-old-clear c = visit_full c.args.cols c.args.free.now c.args.words.now c.args.index c.if-old-clear.true

pub returns-then-first-old : goal.returns-then-first-old
returns-then-first-old c =
    visit_still c.args.cols c.args.free.now c.args.words.now c.args.index c.beside.result (omega arith) (omega arith)
    (omega arith) c.beside.ensures c.if-first-old.true

pub returns : goal.returns
returns c =
    visit_grown c.args.cols c.args.free.now c.args.words.now c.args.index c.beside.result (omega arith) (omega arith)
    (omega arith) c.beside.ensures c.fill.result (λ test. PassesOn test c.args.cols _) (omega arith)
    (λ test passes. all_ways c.args.cols c.args.free.now c.args.index (omega arith) test passes) c.fill.ensures c.if-first-old.false
