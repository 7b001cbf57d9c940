use Rattle.std.proofs.Common.{◌-◌, length}
use Rattle.area.specs.declared.spread.TheConstants.{BOX_MARK}
use Rattle.area.specs.inside.Spread.{IsUnderWay}
use Rattle.area.proofs.UnderWay.{IsLooked}
use Rattle.area.proofs.spread.spread.Given as goal

abbrev pub invariant-loop-head : goal.invariant-loop-head
invariant-loop-head l = IsUnderWay l.level BOX_MARK l.fn.from l.fn.marks l.marks l.queue l.head 0 l.tail

abbrev pub decreases-loop-head : goal.decreases-loop-head
decreases-loop-head l = length l.queue - l.head

abbrev pub invariant-loop-dir : goal.invariant-loop-dir
invariant-loop-dir l = IsLooked l.level BOX_MARK l.fn.from l.fn.marks l.marks l.queue l.head l.dir-index l.tail l.square l.mark
