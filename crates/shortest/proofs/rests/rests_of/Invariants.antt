use Rattle.std.proofs.Common.{◌≡◌, ◌≤◌, length}
use Rattle.shortest.specs.inside.Resting.{AreRests}
use Rattle.shortest.proofs.rests.rests_of.Given as goal

abbrev pub invariant-loop-place : goal.invariant-loop-place
invariant-loop-place l = record {
  within : l.place ≤ length l.states.entries;
  rests : AreRests l.states.board l.states.most l.place l.states.entries l.rests.items;
  size : l.tools.scratch.size ≡ length l.states.board.cells;
  room : length l.tools.walks ≡ length l.states.board.cells;
}

abbrev pub decreases-loop-place : goal.decreases-loop-place
decreases-loop-place l = l.place
