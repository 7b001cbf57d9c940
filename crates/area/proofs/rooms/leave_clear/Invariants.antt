use Rattle.area.proofs.Widening.{AreCleared}
use Rattle.area.proofs.rooms.leave_clear.Given as goal

abbrev pub invariant-loop-index : goal.invariant-loop-index
invariant-loop-index l = AreCleared l.squares l.fn.words l.index l.words
