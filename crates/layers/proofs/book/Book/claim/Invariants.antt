use Rattle.std.proofs.Common.{◌≡◌, ℕ, ◌<◌}
use Rattle.layers.specs.inside.BookInside.{book_view}
use Rattle.layers.specs.Books.{IsClaimedOrDone}
use Rattle.layers.proofs.book.Book.claim.Given as goal

abbrev pub invariant-loop-rank : goal.invariant-loop-rank
invariant-loop-rank l = (l.self-inside ≡ l.initial.self-inside) × ((r : ℕ) → r < l.rank → IsClaimedOrDone (book_view l.self-inside) r)
