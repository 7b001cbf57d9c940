use Rattle.std.proofs.Common.{◌+◌, ◌-◌, length}
use Rattle.store.proofs.Exchanging.{IsExchanged}
use Rattle.store.proofs.Strays.{strays}
use Rattle.store.proofs.closing.exchange.Given as goal

abbrev pub invariant-loop-index : goal.invariant-loop-index
invariant-loop-index g l = IsExchanged l.start l.initial.table.entries l.initial.targets.items l.table.entries l.targets.items l.index

abbrev pub decreases-loop-index : goal.decreases-loop-index
decreases-loop-index g l = (length l.targets.items - l.index) + strays 0 l.targets.items
