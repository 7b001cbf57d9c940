use Rattle.std.proofs.Common.{◌≡◌, ℕ, eqb, true, length, sym, ap, ◌∙◌, arith}
use Rattle.std.proofs.lemmas.Bool.Decides.{nat_tests}
use Rattle.std.specs.Arc.{arc_value}
use Rattle.layers.specs.BookView.{BookView}
use Rattle.layers.specs.Books.{IsShareBeside}
use Rattle.layers.proofs.Cuts.{length-cut_at}
use Rattle.layers.proofs.book.Book.is_share_beside.Goals as goal

decided : (x y : ℕ) → eqb x y ≡ true → x ≡ y
decided x y e = grind (arith, nat_tests)

told : (x y : ℕ) → x ≡ y → eqb x y ≡ true
told x y e = grind (arith, nat_tests)

pub returns : goal.returns
returns c =
    let a = c.self.inside in let b = c.first.inside in
    let problem : arc_value a.problem ≡ arc_value b.problem = sym c.deref.ensures ∙ c.is.ensures.0 c.if-not-is.false ∙ c.deref-else-self-index.ensures in
    let lists_a : length c.args.self.now.closed ≡ length a.starts.items = ap (λ (v : BookView). length v.closed) (sym c.self.view_is)
    ∙ length-cut_at a.starts.items a.found.seen in
    let lists_b : length c.args.first.now.closed ≡ length b.starts.items = ap (λ (v : BookView). length v.closed) (sym c.first.view_is)
    ∙ length-cut_at b.starts.items b.found.seen in let long_a : c.len.result ≡ length c.args.self.now.closed = omega (arith, c.len.ensures, lists_a) in
    let long_b : c.len-2.result ≡ length c.args.first.now.closed = omega (arith, c.len-2.ensures, lists_b) in (
      λ same. (
        ap (λ (v : BookView). v.share) (sym c.self.view_is) ∙ c.if-self-index.false,
        ap (λ (v : BookView). v.level) (sym c.self.view_is) ∙ problem ∙ ap (λ (v : BookView). v.level) c.first.view_is,
        ap (λ (v : BookView). v.limit) (sym c.self.view_is) ∙ c.if-self-first.false ∙ ap (λ (v : BookView). v.limit) c.first.view_is,
        ap (λ (v : BookView). v.shares) (sym c.self.view_is) ∙ c.if-self-first-2.false ∙ ap (λ (v : BookView). v.shares) c.first.view_is,
        sym long_a ∙ decided c.len.result c.len-2.result same ∙ long_b,
      ),
      λ (beside : IsShareBeside c.args.first.now c.args.index c.args.self.now). told c.len.result c.len-2.result (long_a ∙ beside.4 ∙ sym long_b),
    )
