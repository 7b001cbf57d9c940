use Rattle.std.proofs.Common.{◌≡◌, ◌-◌, ◌≤◌, ℕ, length, Some}
use Rattle.std.specs.Prelude.{slice_get}
use Rattle.shortest.specs.inside.Resting.{IsReading}
use Rattle.shortest.proofs.reading.least_pushes.Given as goal

abbrev pub invariant-loop-from : goal.invariant-loop-from
invariant-loop-from l = record {
  reading : (total : ℕ) × (slice_get l.rests 0 ≡ Some (Some total)) × IsReading l.states.board l.states.entries l.rests total l.place l.pushes.items;
  few : length l.pushes.items ≤ l.states.most;
  size : l.tools.scratch.size ≡ length l.states.board.cells;
  room : length l.tools.walks ≡ length l.states.board.cells;
}

abbrev pub decreases-loop-from : goal.decreases-loop-from
decreases-loop-from l = l.states.most - length l.pushes.items
