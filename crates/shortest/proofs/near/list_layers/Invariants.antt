use Rattle.shortest.specs.inside.Nearby.{IsListFor, IsMemoryFor}
use Rattle.shortest.proofs.near.list_layers.Given as goal

abbrev pub invariant-loop-pushes : goal.invariant-loop-pushes
invariant-loop-pushes g l = record {
  ready : IsMemoryFor l.bounds.board l.memory;
  list : IsListFor l.bounds.board l.kept;
}
