use Rattle.std.proofs.Common.{◌≡◌, Some, inl, inr, sym, ap, subst, ◌∙◌, arith}
use Rattle.std.proofs.lemmas.Bool.{cases_lt}
use Rattle.std.proofs.lemmas.Option.{same_Some, slice_get-get_or, slice_get_within}
use Rattle.std.specs.Prelude.{slice_get}
use Rattle.layers.specs.BookView.{BookView, IsLawfulBook}
use Rattle.layers.proofs.join.tell_all.Goals as goal

pub loop-index-preserved : goal.loop-index-preserved
loop-index-preserved c = λ i v lt at. elim (cases_lt i c.loop-index.index) [
  | inl less ↦ c.loop-index.invariant i v less at
  | inr more ↦ (let index = c.loop-index.index in
      let b : BookView = c.index-books-index.result in
      let here : slice_get c.args.books.now index ≡ Some b = slice_get-get_or c.args.books.now index b c.loop-index-test.true
      ∙ ap (λ (x : BookView). Some x) (sym c.index-books-index.is) in let e : index ≡ i = omega arith in
      subst IsLawfulBook (same_Some b v (sym here ∙ ap (slice_get c.args.books.now) e ∙ at)) c.tell.ensures)
]

pub returns : goal.returns
returns c = λ i v at. c.loop-index.invariant i v (omega (arith, slice_get_within c.args.books.now i v at, c.loop-index-test.false)) at
