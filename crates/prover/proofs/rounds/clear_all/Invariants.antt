use Rattle.std.proofs.Common.{◌≡◌, List, length}
use Rattle.store.specs.Visited.{Node}
use Rattle.successors.specs.Problems.{Problem}
use Rattle.prover.specs.inside.Rounds.{AreLanes}
use Rattle.prover.proofs.rounds.clear_all.Given as goal

abbrev pub invariant-loop-index : goal.invariant-loop-index
invariant-loop-index l = record {
  lanes : (t : Problem) (all : List Node) → AreLanes t all l.fn.lanes → AreLanes t all l.lanes;
  all : length l.lanes ≡ length l.fn.lanes;
}
