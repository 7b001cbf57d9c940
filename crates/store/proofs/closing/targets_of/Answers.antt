use Rattle.std.proofs.Common.{◌≡◌, get_or, set, Some, sym, subst, add-one}
use Rattle.std.proofs.lemmas.Option.{slice_get-get_or}
use Rattle.std.specs.Prelude.{slice_get}
use Rattle.store.specs.inside.Placing.{Row}
use Rattle.store.proofs.Exchanging.{AreTargetsSoFar, one_target, all_targets}
use Rattle.store.proofs.closing.targets_of.Goals as goal

pub loop-target-preserved : goal.loop-target-preserved
loop-target-preserved c =
    let rows = c.args.rows.now in let target = c.loop-target.target in let targets = c.loop-target.targets.items in
    let row : Row = get_or rows target c.index-rows-target.result in
    let at : slice_get rows target ≡ Some row = slice_get-get_or rows target c.index-rows-target.result c.loop-target-test.true in
    subst (λ k. AreTargetsSoFar rows k (set targets row.1 target)) (sym (add-one target))
    (one_target rows target targets row c.loop-target.invariant at (c.requires.inside target row at))

pub returns : goal.returns
returns c = all_targets c.args.rows.now c.loop-target.target c.loop-target.targets.items c.requires c.loop-target.invariant c.loop-target-test.false
