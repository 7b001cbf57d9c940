use Rattle.std.proofs.Common.{take}
use Rattle.store.specs.Entering.{RiseByOrigin}
use Rattle.store.specs.FoundView.{NoneExceed, open_of}
use Rattle.store.proofs.closing.do_rise.Given as goal

abbrev pub invariant-loop-index : goal.invariant-loop-index
invariant-loop-index g l = RiseByOrigin (open_of l.start (take l.index l.table.entries)) × NoneExceed (open_of l.start (take l.index l.table.entries)) l.last
