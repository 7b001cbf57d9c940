use Rattle.std.proofs.Common.{ℕ, ◌<◌}
use Rattle.grid.specs.declared.dir.Dir.{Dir}
use Rattle.prices.specs.inside.Checks.{StaysIn}
use Rattle.prices.proofs.check.is_closed.Given as goal

abbrev pub invariant-loop-index : goal.invariant-loop-index
invariant-loop-index l = (p : ℕ) → p < l.index → (d : Dir) → StaysIn l.level l.table l.square l.side p d
