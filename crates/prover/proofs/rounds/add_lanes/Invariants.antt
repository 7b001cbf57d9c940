use Rattle.std.proofs.Common.{◌≤◌, List, length}
use Rattle.store.specs.Visited.{Node}
use Rattle.prover.specs.inside.Rounds.{AreLanes}
use Rattle.prover.proofs.rounds.add_lanes.Given as goal

abbrev pub invariant-loop : goal.invariant-loop
invariant-loop l = record {
  lanes : (all : List Node) → AreLanes l.pruner all l.fn.lanes.items → AreLanes l.pruner all l.lanes.items;
  more : l.counter ≤ length l.lanes.items;
}
