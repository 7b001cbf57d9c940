use Rattle.shortest.specs.inside.Nearby.{IsListFor, IsMemoryFor}
use Rattle.shortest.proofs.near.expand_all.Given as goal

abbrev pub invariant-loop-place : goal.invariant-loop-place
invariant-loop-place g l = record {
  ready : IsMemoryFor l.bounds.board l.memory;
  list : IsListFor l.bounds.board l.listed;
}
