use Rattle.std.proofs.Common.{◌≡◌, ◌+◌, ◌≤◌, slice_index_or}
use Rattle.prices.specs.inside.Sums.{greatest}
use Rattle.regions.specs.inside.Needs.{least_to}
use Rattle.regions.proofs.needs.least_sum.Given as goal

abbrev pub invariant-loop-place : goal.invariant-loop-place
invariant-loop-place l = record {
  value : l.least ≡ least_to (λ i. slice_index_or l.numbers i 0 + slice_index_or l.others i 0) greatest l.place;
  most : l.least ≤ greatest;
}
