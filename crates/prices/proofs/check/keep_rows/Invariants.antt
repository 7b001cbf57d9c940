use Rattle.std.proofs.Common.{◌<◌, ℕ}
use Rattle.prices.specs.inside.Checks.{AreClosed}
use Rattle.prices.proofs.check.keep_rows.Given as goal

abbrev pub invariant-loop-index : goal.invariant-loop-index
invariant-loop-index l = (b : ℕ) → b < l.index → AreClosed l.level l.table b
