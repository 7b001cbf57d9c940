use Rattle.std.proofs.Common.{◌≡◌, ◌⊎◌, length, get_or, inl, inr, refl, arith}
use Rattle.layers.specs.Books.{with_begun}
use Rattle.solo.proofs.Each.{all_changed, ended_at, next_kept, on_err, one_changed}
use Rattle.solo.proofs.ranks.begin_each.Goals as goal

pub begin-requires : goal.begin-requires
begin-requires c =
    let books = c.loop-index.books in let index = c.loop-index.index in let d = c.index-books-index.result in
    c.requires index (get_or books index d) (next_kept (λ v w. w ≡ with_begun v (length c.args.layer.now.places)) c.args.books.now index books d
    (omega (arith, c.loop-index-test.true)) c.loop-index.invariant)

pub returns-in_err-begin-clause-err : goal.returns-in_err-begin-clause-err
returns-in_err-begin-clause-err c =
    let before = c.args.books.now in let books = c.loop-index.books in let index = c.loop-index.index in let d = c.index-books-index.result in
    let ranks = length c.args.layer.now.places in on_err c.from_residual.result (ended_at (λ v w. w ≡ with_begun v ranks)
    (λ v w. (w ≡ v) ⊎ (w ≡ with_begun v ranks)) before index books (get_or books index d) c.begin.new.book (λ x y e. inr e) (λ i x at. inl refl)
    c.loop-index.invariant (next_kept (λ v w. w ≡ with_begun v ranks) before index books d (omega (arith, c.loop-index-test.true)) c.loop-index.invariant)
    (inl c.in_err-begin.ensures.err))

pub loop-index-preserved : goal.loop-index-preserved
loop-index-preserved c =
    let books = c.loop-index.books in let index = c.loop-index.index in let d = c.index-books-index.result in let ranks = length c.args.layer.now.places in
    one_changed (λ v w. w ≡ with_begun v ranks) c.args.books.now index books (get_or books index d) c.begin.new.book c.loop-index.invariant
    (next_kept (λ v w. w ≡ with_begun v ranks) c.args.books.now index books d (omega (arith, c.loop-index-test.true)) c.loop-index.invariant)
    c.in_ok-begin.ensures.ok

pub returns-clause-ok : goal.returns-clause-ok
returns-clause-ok c =
    all_changed (λ v w. w ≡ with_begun v (length c.args.layer.now.places)) c.args.books.now c.loop-index.index c.loop-index.books
    (omega (arith, c.loop-index-test.false, c.loop-index.invariant.same)) c.loop-index.invariant
