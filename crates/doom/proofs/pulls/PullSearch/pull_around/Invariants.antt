use Rattle.std.proofs.Common.{◌+◌, ◌≤◌, ◌≡◌, length}
use Rattle.doom.specs.inside.Pulling.{IsDue, unknown}
use Rattle.doom.proofs.pulls.PullSearch.pull_around.Given as goal

abbrev pub invariant-loop-dir : goal.invariant-loop-dir
invariant-loop-dir l = record {
  due : IsDue l.level l.steps l.square l.dir-index l.self.far.items l.self.due.items l.self.marked.items;
  same : l.self.due.items ≡ l.initial.self.due.items;
  count : length l.self.marked.items + unknown l.self.far.items ≤ length l.initial.self.marked.items + unknown l.initial.self.far.items;
}
