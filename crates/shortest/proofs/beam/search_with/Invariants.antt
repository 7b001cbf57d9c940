use Rattle.shortest.specs.inside.Nearby.{IsFinderFor}
use Rattle.shortest.proofs.beam.search_with.Given as goal

abbrev pub invariant-loop-width : goal.invariant-loop-width
invariant-loop-width g l = IsFinderFor l.level l.finder
