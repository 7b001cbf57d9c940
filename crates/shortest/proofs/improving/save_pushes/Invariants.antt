use Rattle.shortest.specs.Improving.{IsNoWorse}
use Rattle.shortest.specs.inside.Nearby.{IsFinderFor}
use Rattle.shortest.proofs.improving.save_pushes.Given as goal

abbrev pub invariant-loop : goal.invariant-loop
invariant-loop g l = record {
  better : IsNoWorse l.level l.initial.moves l.moves;
  finder : IsFinderFor l.level l.finder;
}
