-- Each square so far has its mark.
use Rattle.std.proofs.Common.{◌≡◌, length}
use Rattle.sokopar.specs.DeadMap.{IsMark}
use Rattle.sokopar.proofs.Maps.{HaveBytes}
use Rattle.sokopar.proofs.dead.marks_by.Given as goal

abbrev pub invariant-loop-number : goal.invariant-loop-number
invariant-loop-number l = record {
  count : length l.marks.items ≡ l.number;
  marks : HaveBytes (IsMark l.fn.level) l.marks.items;
}
