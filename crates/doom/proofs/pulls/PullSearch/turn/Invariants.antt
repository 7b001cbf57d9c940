use Rattle.std.proofs.Common.{◌+◌, ◌≤◌, length}
use Rattle.doom.specs.inside.Pulling.{IsFilling, unknown}
use Rattle.doom.proofs.pulls.PullSearch.turn.Given as goal

abbrev pub invariant-loop-square : goal.invariant-loop-square
invariant-loop-square l = record {
  filling : IsFilling l.level l.steps l.self.far.items l.self.due.items l.self.marked.items;
  count : length l.self.marked.items + unknown l.self.far.items ≤ length l.initial.self.marked.items + unknown l.initial.self.far.items;
}

abbrev pub decreases-loop-square : goal.decreases-loop-square
decreases-loop-square l = length l.self.due.items
