use Rattle.std.proofs.Common.{◌≡◌, ◌+◌, ◌≤◌, drop}
use Rattle.prices.specs.inside.Goals.{mark_count}
use Rattle.prices.proofs.lost.mark_count.Given as goal

abbrev pub invariant-loop-mark : goal.invariant-loop-mark
invariant-loop-mark l = record {
  count : l.count + mark_count (drop l.mark-index l.marks) ≡ mark_count l.marks;
  few : l.count ≤ l.mark-index;
}
