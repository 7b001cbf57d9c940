use Rattle.grid.specs.declared.dir.Dir.{Dir}
use Rattle.prices.specs.inside.Tables.{far_in}
use Rattle.prices.proofs.lemmas.Looks.{told_by_four}
use Rattle.regions.specs.inside.Checks.{IsPaid}
use Rattle.regions.specs.inside.Needs.{need_under}
use Rattle.regions.specs.inside.Views.{parts_of}
use Rattle.regions.proofs.sums.are_paid_from.Goals as goal

pub returns : goal.returns
returns c = told_by_four
    (λ (d : Dir). IsPaid c.args.level.now (far_in c.args.distances.now.table) (need_under c.args.distances.now c.args.tolls.now) (parts_of c.args.jobs.now) c.args.player d)
    c.is_paid-down.result c.is_paid-left.result c.is_paid-right.result c.is_paid-up.result
    c.is_paid-down.ensures c.is_paid-left.ensures c.is_paid-right.ensures c.is_paid-up.ensures
