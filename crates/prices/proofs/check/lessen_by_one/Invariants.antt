use Rattle.std.proofs.Common.{◌<◌, ℕ}
use Rattle.grid.specs.declared.dir.Dir.{Dir}
use Rattle.prices.specs.inside.Checks.{LessensByOne}
use Rattle.prices.proofs.check.lessen_by_one.Given as goal

abbrev pub invariant-loop-index : goal.invariant-loop-index
invariant-loop-index l = (p : ℕ) → p < l.index → (d : Dir) → LessensByOne l.level l.table p d
