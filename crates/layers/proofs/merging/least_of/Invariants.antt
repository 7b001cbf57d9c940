use Rattle.layers.proofs.Rests.{IsLeastSoFar}
use Rattle.layers.proofs.merging.least_of.Given as goal

abbrev pub invariant-loop-index : goal.invariant-loop-index
invariant-loop-index l = IsLeastSoFar l.rests l.index l.least l.bound
