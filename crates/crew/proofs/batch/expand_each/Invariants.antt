use Rattle.std.proofs.Common.{◌≡◌}
use Rattle.crew.specs.inside.Batches.{AreExpanded}
use Rattle.crew.proofs.batch.expand_each.Given as goal

abbrev pub invariant-loop-place : goal.invariant-loop-place
invariant-loop-place g l = AreExpanded l.fn.shared.layer l.fn.ranks l.place l.parcels × (l.scratch.size ≡ l.fn.scratch.size)
