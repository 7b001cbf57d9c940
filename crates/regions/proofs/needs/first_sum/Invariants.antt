use Rattle.std.proofs.Common.{◌≡◌, ◌*◌, ◌≤◌, slice_index_or}
use Rattle.prices.specs.inside.Sums.{greatest}
use Rattle.regions.specs.inside.Needs.{sum_to}
use Rattle.regions.proofs.needs.first_sum.Given as goal

abbrev pub invariant-loop-place : goal.invariant-loop-place
invariant-loop-place l = record {
  value : l.sum ≡ sum_to (λ i. slice_index_or l.numbers i 0) l.place;
  few : l.sum ≤ l.place * greatest;
}
