use Rattle.std.proofs.Common.{◌≡◌, map, take}
use Rattle.layers.specs.BookView.{last_list}
use Rattle.layers.proofs.merging.rests_of.Given as goal

abbrev pub invariant-loop-book : goal.invariant-loop-book
invariant-loop-book l = l.rests.items ≡ map last_list (take l.book-index l.books)
