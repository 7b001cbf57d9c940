use Rattle.std.proofs.Common.{◌≡◌, ◌≤◌, length}
use Rattle.successors.specs.declared.limits.TheConstants.{MAX_SHARES}
use Rattle.solo.proofs.Counting.{IsDoneWith}
use Rattle.solo.proofs.Each.{HaveChangedUpTo}
use Rattle.solo.proofs.search.Search.do_rest.Given as goal

abbrev pub invariant-loop-index : goal.invariant-loop-index
invariant-loop-index l = record {
  done : HaveChangedUpTo (IsDoneWith l.layer l.worker) l.fn.books l.index l.books;
  few : length l.books ≤ MAX_SHARES;
  size : l.scratch.size ≡ length l.layer.level.board.cells;
}
