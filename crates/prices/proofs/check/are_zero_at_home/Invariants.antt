use Rattle.std.proofs.Common.{◌≡◌, ◌<◌, ℕ, length, slice_index_or}
use Rattle.prices.specs.inside.Tables.{row_in}
use Rattle.prices.proofs.check.are_zero_at_home.Given as goal

abbrev pub invariant-loop-place : goal.invariant-loop-place
invariant-loop-place l =
    (i : ℕ) → i < l.place → (p : ℕ) → p < length l.level.cells → slice_index_or (row_in l.table (slice_index_or l.table.goals.items i 0) p) i 0 ≡ 0
