use Rattle.std.proofs.Common.{◌+◌, ◌*◌, ◌<◌, ◌≤◌, ◌≡◌, [], length}
use Rattle.doom.specs.inside.Pulling.{IsFilling, unknown}
use Rattle.doom.proofs.pulls.distances.Given as goal

abbrev pub invariant-loop-steps : goal.invariant-loop-steps
invariant-loop-steps l = record {
  filling : IsFilling l.level l.steps l.found.far.items [] l.found.marked.items;
  none : l.found.due.items ≡ [];
  few : 0 < length l.found.marked.items → l.steps + unknown l.found.far.items ≤ length l.level.cells;
}

abbrev pub decreases-loop-steps : goal.decreases-loop-steps
decreases-loop-steps l = length l.found.marked.items + 2 * unknown l.found.far.items
