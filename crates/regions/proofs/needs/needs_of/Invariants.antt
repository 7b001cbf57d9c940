use Rattle.std.proofs.Common.{◌≡◌, length}
use Rattle.regions.specs.inside.Needs.{AreNeeds}
use Rattle.regions.proofs.needs.needs_of.Given as goal

abbrev pub invariant-loop-start : goal.invariant-loop-start
invariant-loop-start l = record {
  all : length l.needs.items ≡ l.start;
  below : AreNeeds l.distances l.tolls l.needs.items;
}
