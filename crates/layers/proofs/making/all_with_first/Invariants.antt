use Rattle.std.proofs.Common.{◌≡◌, length}
use Rattle.std.specs.Arc.{arc_value}
use Rattle.layers.specs.Books.{AreNewInOrder}
use Rattle.layers.proofs.making.all_with_first.Given as goal

abbrev pub invariant-loop-share : goal.invariant-loop-share
invariant-loop-share l = (length l.books.items ≡ l.share) × AreNewInOrder (arc_value l.problem) l.limit l.workers l.shares l.books.items
