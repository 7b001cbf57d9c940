use Rattle.std.proofs.Common.{◌≡◌, length}
use Rattle.layers.specs.Books.{with_begun}
use Rattle.solo.proofs.Each.{HaveChangedUpTo}
use Rattle.solo.proofs.ranks.begin_each.Given as goal

abbrev pub invariant-loop-index : goal.invariant-loop-index
invariant-loop-index l = HaveChangedUpTo (λ v w. w ≡ with_begun v (length l.layer.places)) l.fn.books l.index l.books
