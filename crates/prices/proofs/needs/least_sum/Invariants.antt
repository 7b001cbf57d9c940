use Rattle.std.proofs.Common.{◌≡◌, ◌+◌, ◌<◌, ◌≤◌, ℕ, min, drop, length, slice_index_or}
use Rattle.prices.specs.inside.Sums.{greatest, least_sum}
use Rattle.prices.proofs.needs.least_sum.Given as goal

abbrev pub invariant-loop-place : goal.invariant-loop-place
invariant-loop-place l = record {
  same : length l.numbers ≡ length l.others;
  most : l.least ≤ greatest;
  value : min l.least (least_sum (drop l.place l.numbers) (drop l.place l.others)) ≡ least_sum l.numbers l.others;
  each : (i : ℕ) → i < l.place → l.least ≤ slice_index_or l.numbers i 0 + slice_index_or l.others i 0;
}
