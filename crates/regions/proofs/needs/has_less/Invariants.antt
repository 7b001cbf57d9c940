use Rattle.std.proofs.Common.{◌≤◌, ◌<◌, ℕ, slice_index_or}
use Rattle.prices.specs.declared.pulls.TheConstants.{NEVER}
use Rattle.regions.proofs.needs.has_less.Given as goal

abbrev pub invariant-loop-place : goal.invariant-loop-place
invariant-loop-place l = (i : ℕ) → i < l.place → NEVER ≤ slice_index_or l.numbers i 0
