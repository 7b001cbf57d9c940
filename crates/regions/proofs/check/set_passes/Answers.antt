use Rattle.regions.proofs.Passing.{set_passes}
use Rattle.regions.proofs.check.set_passes.Goals as goal

pub returns : goal.returns
returns c = λ yes. set_passes c.args.look.now c.args.steps.now c.requires c.args.set.now.bits c.args.set.now.high
    c.args.set.now.low c.row-row.result c.args.set.now.left c.as_slice.result.now c.as_slice-2.result.now
    c.as_slice-3.result.now c.row-row.ensures.value c.as_slice.ensures.value c.as_slice-2.ensures.value
    c.as_slice-3.ensures.value (c.walks_keep.ensures c.if-not-walks_keep.false)
    (c.pushes_pay.ensures c.if-not-pushes_pay.false) (c.entries_pay.ensures c.if-not-entries_pay.false)
    (c.home_passes.ensures yes)
