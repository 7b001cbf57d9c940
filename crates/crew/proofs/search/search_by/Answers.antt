use Rattle.std.proofs.Common.{◌+◌, sym, subst, ◌∙◌}
use Rattle.std.specs.Arc.{arc_value}
use Rattle.layers.specs.Books.{AreNewShares}
use Rattle.solo.specs.inside.Searched.{SearchView}
use Rattle.solo.proofs.lemmas.Iterations.{first_iteration}
use Rattle.crew.specs.inside.Iterations.{ArePausedBy}
use Rattle.crew.proofs.search.search_by.Goals as goal

pub iterate_all-answer-requires-clause-first : goal.iterate_all-answer-requires-clause-first
iterate_all-answer-requires-clause-first g c κs within =
    let problem = arc_value c.args.problem.now in let config = c.args.config in let books = c.in_ok-books.books.items in
    let new = subst (λ (v : SearchView). AreNewShares v.problem v.limit (config.workers + 1) config.locks books) c.in_ok-search.ensures c.in_ok-books.ensures.books in
    subst (λ v. ArePausedBy config v books) (sym (c.new_books.ensures.same ∙ c.in_ok-search.ensures))
    (first_iteration problem config.limit (config.workers + 1) config.locks books new.0 new.1)
