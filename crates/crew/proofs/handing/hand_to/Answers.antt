use Rattle.std.proofs.Common.{subst}
use Rattle.layers.specs.BookView.{BookView}
use Rattle.crew.specs.inside.Handing.{HandsBack}
use Rattle.crew.specs.inside.Sharing.{SharedView}
use Rattle.crew.proofs.handing.hand_to.Goals as goal

pub returns : goal.returns
returns g c =
    let is = c.with_lock.ensures.2 in
    let before : BookView = g.B.LockedBook.book is.argument.now in
    let after : BookView = g.B.LockedBook.book is.after_call.now in (
      before,
      after,
      is.call.1,
      subst (λ (shared : SharedView). HandsBack shared.layer shared.workers c.args.worker c.args.parcel.now before c.with_lock.result after)
          c.shared.view_is is.call.0,
    )
