use Rattle.std.proofs.Common.{◌≡◌, drop, length}
use Rattle.prices.specs.inside.Goals.{marks_all}
use Rattle.prices.proofs.lost.marks_all.Given as goal

abbrev pub invariant-loop-place : goal.invariant-loop-place
invariant-loop-place l = record {
  same : length l.row ≡ length l.marks;
  value : marks_all (drop l.place l.row) (drop l.place l.marks) ≡ marks_all l.row l.marks;
}
