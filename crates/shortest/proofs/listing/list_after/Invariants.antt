use Rattle.std.proofs.Common.{◌≡◌}
use Rattle.successors.specs.Expanding.{HasPushesOf}
use Rattle.shortest.specs.inside.Listing.{ArePushesKept, IsEntryAt, IsStateList}
use Rattle.shortest.proofs.listing.list_after.Given as goal

abbrev pub invariant-loop-index : goal.invariant-loop-index
invariant-loop-index l = record {
  board : l.workspace.expander.problem.board ≡ l.bounds.board;
  found : HasPushesOf l.workspace.expander l.from.state;
  same : l.workspace.expander ≡ l.initial.workspace.expander;
  listing : IsStateList l.bounds.board l.bounds.cap l.place l.listed;
  at_place : IsEntryAt l.listed.entries l.place l.from.state l.from.pushes;
  kept : ArePushesKept l.bounds.board l.bounds.cap l.listed.entries l.from.pushes l.from.state l.workspace.expander.pushes l.index;
}
