use Rattle.std.proofs.Common.{◌≡◌, take}
use Rattle.successors.specs.Reaching.{total}
use Rattle.layers.proofs.merging.count_all.Given as goal

abbrev pub invariant-loop-index : goal.invariant-loop-index
invariant-loop-index l = l.count ≡ total (take l.index l.rests)
