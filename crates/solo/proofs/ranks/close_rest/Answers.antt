use Rattle.std.proofs.Common.{get_or, inl, inr, refl, arith}
use Rattle.layers.specs.BookView.{BookView}
use Rattle.solo.specs.inside.Rests.{IsClosedIfDone, MayBeClosed}
use Rattle.solo.proofs.Each.{all_changed, ended_at, next_kept, on_err, one_changed}
use Rattle.solo.proofs.ranks.close_rest.Goals as goal

wider : (v w : BookView) → IsClosedIfDone v w → MayBeClosed v w
wider v w (inl kept) = inl kept.1
wider v w (inr closed) = inr closed

pub returns-in_err-close-clause-err : goal.returns-in_err-close-clause-err
returns-in_err-close-clause-err c =
    let before = c.args.books.now in let books = c.loop-index.books in let index = c.loop-index.index in let d = c.index-books-index.result in
    on_err c.from_residual.result (ended_at IsClosedIfDone MayBeClosed before index books (get_or books index d) c.close.new.book wider (λ i x at. inl refl)
    c.loop-index.invariant (next_kept IsClosedIfDone before index books d (omega (arith, c.loop-index-test.true)) c.loop-index.invariant)
    (inl c.in_err-close.ensures.err))

pub loop-index-preserved : goal.loop-index-preserved
loop-index-preserved c =
    let before = c.args.books.now in let books = c.loop-index.books in let index = c.loop-index.index in let d = c.index-books-index.result in
    one_changed IsClosedIfDone before index books (get_or books index d) c.close.new.book c.loop-index.invariant
    (next_kept IsClosedIfDone before index books d (omega (arith, c.loop-index-test.true)) c.loop-index.invariant) c.in_ok-close.ensures.ok

pub returns-clause-ok : goal.returns-clause-ok
returns-clause-ok c =
    all_changed IsClosedIfDone c.args.books.now c.loop-index.index c.loop-index.books
    (omega (arith, c.loop-index-test.false, c.loop-index.invariant.same)) c.loop-index.invariant
