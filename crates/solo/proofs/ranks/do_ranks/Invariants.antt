use Rattle.std.proofs.Common.{◌≡◌, ◌-◌, length, count_by}
use Rattle.solo.specs.inside.Iterations.{IsDoneBy, IsOnlyClaimed}
use Rattle.solo.proofs.ranks.do_ranks.Given as goal

abbrev pub invariant-loop-book : goal.invariant-loop-book
invariant-loop-book l = record {
  due : IsOnlyClaimed l.fn.book l.layer l.book l.parcel;
  credited : IsDoneBy l.worker l.fn.book l.book;
  size : l.scratch.size ≡ l.fn.scratch.size;
}

abbrev pub decreases-loop-book : goal.decreases-loop-book
decreases-loop-book l = length l.layer.places - count_by (λ b. b) l.book.done
