use Rattle.std.proofs.Common.{◌≡◌, length, get_or, sym, subst, ◌∙◌}
use Rattle.std.proofs.lemmas.Iterator.Adapters.{YieldsList-from_vec}
use Rattle.std.proofs.lemmas.Iterator.Consumers.{YieldsList-turn}
use Rattle.std.proofs.lemmas.Option.{slice_get-get_or}
use Rattle.layers.specs.BookView.{BookView}
use Rattle.crew.proofs.lent.lock_each.Goals as goal

pub of-requires : goal.of-requires
of-requires g c =
    let gives = c.into_iter-book-iterator.ensures.into_iter_gives in
    let books = c.args.books.items in
    let place = length c.loop-book.yielded in
    let book : BookView = c.in-Some.book in
    let all = YieldsList-from_vec {s = c.into_iter-book-iterator.result} books gives.0 (gives.1 ∙ c.args.books.ok.0) in
    let turn = YieldsList-turn all c.loop-book.yielded c.loop-book.book-iterator c.loop-book.yielded_by c.next.result c.next.new.self book
    c.in-Some.is c.next.ensures.steps in
    subst (λ (v : BookView). v.level ≡ g.K.OneProblem.problem) (sym turn.1)
    (c.requires place (get_or books place book) (slice_get-get_or books place book turn.0))
