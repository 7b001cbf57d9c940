use Rattle.std.proofs.Common.{◌≡◌, ◌++◌, ℕ, Some, length, take, drop, sym, ap, subst, ◌∙◌}
use Rattle.std.proofs.Math.Seq.{take-append_seam}
use Rattle.std.specs.Prelude.{slice_get}
use Rattle.layers.specs.BookView.{BookView}
use Rattle.layers.specs.Books.{MayBegin}
use Rattle.crew.specs.inside.Known.{AreOf}
use Rattle.crew.proofs.Lending.{begun_of}
use Rattle.crew.proofs.iteration.work_through.Goals as goal

pub begin_each-requires : goal.begin_each-requires
begin_each-requires g c = subst (λ bs. (i : ℕ) (v : BookView) → slice_get bs i ≡ Some v →
    MayBegin v c.args.layer.now) (sym c.as_mut_slice.ensures.value) c.requires.may

pub lend-requires-clause-books : goal.lend-requires-clause-books
lend-requires-clause-books g c κs within =
    let lent = c.as_mut_slice.result.now in
    let begun = c.begin_each.new.books in
    let books = c.args.books in
    let whole : books.len ≡ length begun = sym (c.begin_each.auto.books ∙ c.as_mut_slice.ensures.len) in
    let left : take books.len (begun ++ drop (length begun) books.items) ≡ begun = ap (λ n. take n (begun ++ drop (length begun) books.items)) whole
    ∙ take-append_seam begun (drop (length begun) books.items) in
    subst (AreOf c.args.layer.now.level) (sym left)
    (begun_of lent begun c.args.layer.now _ (subst (λ bs. (i : ℕ) (v : BookView) → slice_get bs i ≡ Some v →
    MayBegin v c.args.layer.now) (sym c.as_mut_slice.ensures.value) c.requires.may) c.in_ok-begin_each.ensures.ok)
