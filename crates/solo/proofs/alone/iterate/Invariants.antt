use Rattle.std.proofs.Common.{◌≡◌, ◌-◌}
use Rattle.solo.specs.inside.Iterations.{AreBetweenLayers}
use Rattle.solo.proofs.alone.iterate.Given as goal

abbrev pub invariant-loop-answer : goal.invariant-loop-answer
invariant-loop-answer l = record {
  between : AreBetweenLayers l.search 1 1 l.books;
  problem : l.search.problem ≡ l.fn.search.problem;
  limit : l.search.limit ≡ l.fn.search.limit;
}

abbrev pub decreases-loop-answer : goal.decreases-loop-answer
decreases-loop-answer l = l.search.limit - l.search.positions
