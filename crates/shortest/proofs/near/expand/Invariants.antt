use Rattle.std.proofs.Common.{◌≡◌}
use Rattle.successors.specs.Expanding.{HasPushesOf}
use Rattle.shortest.specs.inside.Nearby.{IsListFor, IsMemoryFor}
use Rattle.shortest.proofs.near.expand.Given as goal

abbrev pub invariant-loop-index : goal.invariant-loop-index
invariant-loop-index l = record {
  ready : IsMemoryFor l.bounds.board l.memory;
  found : HasPushesOf l.memory.workspace.expander l.from.state;
  same : l.memory.workspace.expander ≡ l.initial.memory.workspace.expander;
  list : IsListFor l.bounds.board l.listed;
}
