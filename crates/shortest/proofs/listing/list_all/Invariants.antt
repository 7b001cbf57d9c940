use Rattle.std.proofs.Common.{◌≡◌, ◌-◌}
use Rattle.shortest.specs.inside.Listing.{IsStateList}
use Rattle.shortest.proofs.listing.list_all.Given as goal

abbrev pub invariant-loop-place : goal.invariant-loop-place
invariant-loop-place g l = record {
  same : l.bounds ≡ l.fn.bounds;
  listing : IsStateList l.fn.bounds.board l.fn.bounds.cap l.place l.listed;
  board : l.workspace.expander.problem.board ≡ l.fn.bounds.board;
}

abbrev pub decreases-loop-place : goal.decreases-loop-place
decreases-loop-place g l = l.limit - l.place
