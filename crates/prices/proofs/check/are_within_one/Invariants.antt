use Rattle.std.proofs.Common.{◌≡◌, ◌<◌, ◌≤◌, ℕ, suc, true, length, slice_index_or}
use Rattle.prices.specs.declared.pulls.TheConstants.{NEVER}
use Rattle.prices.proofs.check.are_within_one.Given as goal

abbrev pub invariant-loop-place : goal.invariant-loop-place
invariant-loop-place l = record {
  few : length l.numbers ≤ length l.others;
  within : l.within ≡ true → (i : ℕ) → i < l.place → slice_index_or l.numbers i 0 ≤ suc (slice_index_or l.others i 0);
  never : l.never ≡ true → (i : ℕ) → i < l.place → NEVER ≤ slice_index_or l.numbers i 0 → NEVER ≤ slice_index_or l.others i 0;
}
