use Rattle.std.proofs.Common.{sym, subst, ◌∙◌}
use Rattle.std.specs.Arc.{arc_value}
use Rattle.layers.specs.Books.{AreNewShares}
use Rattle.solo.specs.inside.Iterations.{AreBetweenLayers}
use Rattle.solo.specs.inside.Searched.{SearchView}
use Rattle.solo.proofs.lemmas.Iterations.{first_iteration}
use Rattle.solo.proofs.alone.search_by.Goals as goal

pub iterate-requires : goal.iterate-requires
iterate-requires c =
    let problem = arc_value c.args.problem.now in let limit = c.args.limit in let books = c.in_ok-books.books.items in
    let new = subst (λ (v : SearchView). AreNewShares v.problem v.limit 1 1 books) c.in_ok-search.ensures c.in_ok-books.ensures.books in
    subst (λ v. AreBetweenLayers v 1 1 c.as_mut_slice.result.now) (sym (c.new_books.ensures.same ∙ c.in_ok-search.ensures))
    (subst (AreBetweenLayers _ 1 1) (sym c.as_mut_slice.ensures.value) (first_iteration problem limit 1 1 books new.0 new.1))
