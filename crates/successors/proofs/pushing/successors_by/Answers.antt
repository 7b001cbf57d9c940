use Rattle.std.proofs.Common.{◌+◌, length, take, refl, sym, subst, ◌∙◌, inl, inr, arith}
use Rattle.std.proofs.lemmas.Option.{slice_get_read}
use Rattle.successors.specs.ParcelView.{FitLevel}
use Rattle.successors.specs.inside.Expanding.{IsReady}
use Rattle.successors.proofs.lemmas.Successors.{come_by}
use Rattle.successors.proofs.Gathering.{AreSuccessorsBy, by_same, by_more, by_all, fit_more}
use Rattle.successors.proofs.pushing.successors_by.Goals as goal

pub append_successor-count-requires-clause-possible : goal.append_successor-count-requires-clause-possible
append_successor-count-requires-clause-possible c =
    c.requires.pushes.each c.loop-push.push-index c.push-item.result
    (slice_get_read c.args.pushes.now (length c.args.pushes.now) c.loop-push.push-index c.push-item.result refl c.loop-push-test.true c.push-item.is)

pub loop-push-preserved : goal.loop-push-preserved
loop-push-preserved c =
    let board = c.args.parent.now.level.now in
    let n = c.args.parent.now.position.now in
    let scene = c.requires.ready.fits.scene in
    let ss = take c.loop-push.count c.loop-push.slots.successors.items in
    let here = slice_get_read c.args.pushes.now
    (length c.args.pushes.now) c.loop-push.push-index c.push-item.result refl c.loop-push-test.true c.push-item.is in
    let kept = c.append_successor-count.ensures.kept ∙ c.loop-push.invariant.kept in
    let bound = c.append_successor-count.ensures.bound in
    elim c.append_successor-count.ensures.appended [
      | inl (s, grown, named, come, fits) ↦
          (let more = by_more board n scene c.args.pushes.now c.loop-push.push-index c.push-item.result ss s c.requires.pushes here
          c.loop-push.invariant.successors named come in
          let fit = fit_more board ss s c.loop-push.invariant.fits fits in
          record {
            successors = subst (AreSuccessorsBy board n (c.loop-push.push-index + 1) c.args.pushes.now) (sym grown) more;
            fits = subst (FitLevel board) (sym grown) fit;
            bound = omega (arith, c.loop-push.invariant.bound, bound);
            filled = c.append_successor-count.ensures.filled;
            kept = kept;
          })
      | inr (e, none) ↦
          (let same = by_same board n scene c.args.pushes.now c.loop-push.push-index c.push-item.result ss here c.loop-push.invariant.successors none in
          record {
            successors = subst (AreSuccessorsBy board n (c.loop-push.push-index + 1) c.args.pushes.now) (sym e) same;
            fits = subst (FitLevel board) (sym e) c.loop-push.invariant.fits;
            bound = omega (arith, c.loop-push.invariant.bound, bound);
            filled = c.append_successor-count.ensures.filled;
            kept = kept;
          })
    ]

pub returns-clause-successors : goal.returns-clause-successors
returns-clause-successors c =
    by_all c.args.parent.now.level.now c.args.parent.now.position.now c.requires.ready.fits.scene c.args.pushes.now c.loop-push.push-index
    (take c.loop-push.count c.loop-push.slots.successors.items) c.loop-push-test.false c.requires.pushes
    (λ p m come. (come_by c.args.parent.now.level.now c.args.parent.now.position.now c.requires.ready.fits.scene p m come).can) c.loop-push.invariant.successors

pub append_successor-count-requires-clause-ready : goal.append_successor-count-requires-clause-ready
append_successor-count-requires-clause-ready c = subst (IsReady c.args.parent.now) (sym c.loop-push.invariant.kept) c.requires.ready
