use Rattle.area.proofs.Chains.{AreTurned}
use Rattle.area.proofs.bits.turn_over.Given as goal

abbrev pub invariant-loop-index : goal.invariant-loop-index
invariant-loop-index l = AreTurned l.fn.words l.index l.words
