use Rattle.std.proofs.Common.{arith}
use Rattle.grid.specs.declared.dir.Dir.{Dir}
use Rattle.grid.proofs.lemmas.Steps.{inside_grid}
use Rattle.prices.specs.inside.Tables.{far_in}
use Rattle.prices.proofs.lemmas.Looks.{below_next}
use Rattle.regions.specs.inside.Checks.{IsPaid}
use Rattle.regions.specs.inside.Needs.{need_under}
use Rattle.regions.specs.inside.Views.{parts_of}
use Rattle.regions.proofs.sums.are_paid.Goals as goal

pub loop-index-preserved : goal.loop-index-preserved
loop-index-preserved c =
    below_next (λ p. (d : Dir) → IsPaid c.args.level.now (far_in c.args.distances.now.table) (need_under c.args.distances.now c.args.tolls.now) (parts_of c.args.jobs.now) p d)
    c.loop-index.index c.loop-index.invariant (c.are_paid_from.ensures c.if-not-are_paid_from.false)

pub returns : goal.returns
returns c = λ _ p d stands. c.loop-index.invariant p (let inside = inside_grid c.args.level.now p stands.player in omega (arith, inside)) d stands
