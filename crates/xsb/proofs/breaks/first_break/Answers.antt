use Rattle.xsb.proofs.Breaking.{IsPassed-none, IsPassed-bar, IsPassed-item}
use Rattle.xsb.proofs.breaks.first_break.Goals as goal

pub loop-first-init : goal.loop-first-init
loop-first-init c = IsPassed-none c.args.line.now

pub loop-first-preserved-then-first-eq-BAR : goal.loop-first-preserved-then-first-eq-BAR
loop-first-preserved-then-first-eq-BAR c =
    IsPassed-bar c.in-Some.first.now c.in-Some.after.now c.loop-first.invariant c.in-Some.ensures.cases.0 c.if-first-eq-BAR.true

pub loop-first-preserved : goal.loop-first-preserved
loop-first-preserved c = IsPassed-item c.in-Some-first_item.field-0-0 c.in-Some-first_item.after.now c.loop-first.invariant c.in-Some-first_item.ensures
