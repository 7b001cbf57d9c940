use Rattle.std.proofs.Common.{◌≡◌, Some, inl, inr, refl, sym, ap, subst, ◌∙◌, arith}
use Rattle.std.proofs.lemmas.Bool.{cases_lt}
use Rattle.std.proofs.lemmas.Option.{same_Some, slice_get-get_or, slice_get_within}
use Rattle.std.specs.Prelude.{slice_get}
use Rattle.layers.specs.BookView.{BookView}
use Rattle.layers.specs.Books.{IsShareBeside}
use Rattle.layers.proofs.join.are_all_shares.Goals as goal

pub loop-index-preserved : goal.loop-index-preserved
loop-index-preserved c = λ i v lt at. elim (cases_lt i c.loop-index.index) [
  | inl less ↦ c.loop-index.invariant i v less at
  | inr more ↦ (let index = c.loop-index.index in
      let b : BookView = c.index-books-index.result in
      let here : slice_get c.args.books.now index ≡ Some b = slice_get-get_or c.args.books.now index b c.loop-index-test.true
      ∙ ap (λ (x : BookView). Some x) (sym c.index-books-index.is) in let e : index ≡ i = omega arith in
      let same : b ≡ v = same_Some b v (sym here ∙ ap (slice_get c.args.books.now) e ∙ at) in
      subst (λ k. IsShareBeside c.args.first.now k v) e (subst (IsShareBeside c.args.first.now index) same (c.if-not-is_share_beside.ensures.0 refl)))
]

pub returns : goal.returns
returns c = record {
  first = c.args.first.now;
  head = c.requires;
  all = c.if-books-shares.false ∙ c.shares.ensures;
  each = λ i v at. c.loop-index.invariant i v (omega (arith, slice_get_within c.args.books.now i v at, c.loop-index-test.false)) at;
}
