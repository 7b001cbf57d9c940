use Rattle.solo.specs.inside.Rests.{IsClosedIfDone}
use Rattle.solo.proofs.Each.{HaveChangedUpTo}
use Rattle.solo.proofs.ranks.close_rest.Given as goal

abbrev pub invariant-loop-index : goal.invariant-loop-index
invariant-loop-index l = HaveChangedUpTo IsClosedIfDone l.fn.books l.index l.books
