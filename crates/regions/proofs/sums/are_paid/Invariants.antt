use Rattle.std.proofs.Common.{ℕ, ◌<◌}
use Rattle.grid.specs.declared.dir.Dir.{Dir}
use Rattle.prices.specs.inside.Tables.{far_in}
use Rattle.regions.specs.inside.Checks.{IsPaid}
use Rattle.regions.specs.inside.Needs.{need_under}
use Rattle.regions.specs.inside.Views.{parts_of}
use Rattle.regions.proofs.sums.are_paid.Given as goal

abbrev pub invariant-loop-index : goal.invariant-loop-index
invariant-loop-index l = (p : ℕ) → p < l.index → (d : Dir)
    → IsPaid l.level (far_in l.distances.table) (need_under l.distances l.tolls) (parts_of l.jobs) p d
