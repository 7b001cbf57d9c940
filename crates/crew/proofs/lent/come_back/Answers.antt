use Rattle.std.proofs.Common.{◌≡◌, Some, inl, inr, refl, sym, ap, subst, ◌∙◌, arith}
use Rattle.std.proofs.lemmas.Bool.{cases_lt}
use Rattle.std.proofs.lemmas.Option.{same_Some, slice_get-get_or, slice_get_within}
use Rattle.std.specs.Prelude.{slice_get}
use Rattle.layers.specs.BookView.{BookView}
use Rattle.crew.specs.Lending.{ComesBack}
use Rattle.crew.proofs.lent.come_back.Goals as goal

pub loop-place-preserved : goal.loop-place-preserved
loop-place-preserved c = λ i v lt at. elim (cases_lt i c.loop-place.place) [
  | inl less ↦ c.loop-place.invariant i v less at
  | inr more ↦ (let place = c.loop-place.place in let config = c.args.config in let layer = c.args.layer.now in
      let b : BookView = c.index-books-place.result in
      let here : slice_get c.args.books.now place ≡ Some b = slice_get-get_or c.args.books.now place b c.loop-place-test.true
      ∙ ap (λ (x : BookView). Some x) (sym c.index-books-place.is) in let e : place ≡ i = omega arith in
      let same : b ≡ v = same_Some b v (sym here ∙ ap (slice_get c.args.books.now) e ∙ at) in
      subst (λ k. ComesBack config layer k v) e (subst (ComesBack config layer place) same (c.if-not-is_lent_book.ensures.0 refl)))
]

pub returns : goal.returns
returns c = record {
  all = c.if-books-config.false;
  each = λ i v at. c.loop-place.invariant i v (omega (arith, slice_get_within c.args.books.now i v at, c.loop-place-test.false)) at;
}
