use Rattle.std.proofs.Common.{◌≡◌, ◌<◌, ℕ, slice_index_or}
use Rattle.prices.specs.inside.Tables.{row_in}
use Rattle.prices.proofs.check.is_zero_at_home.Given as goal

abbrev pub invariant-loop-index : goal.invariant-loop-index
invariant-loop-index l = (p : ℕ) → p < l.index → slice_index_or (row_in l.table l.goal p) l.place 0 ≡ 0
