use Rattle.std.proofs.Common.{◌≡◌, ℕ, ◌%◌, ◌<◌, ◌≤◌, length, get_or, vec_capacity}
use Rattle.grid.specs.declared.around.Around.{Around}
use Rattle.grid.specs.inside.AroundView.{around_of}
use Rattle.grid.proofs.around.neighbours.Given as goal

abbrev pub invariant-loop-square : goal.invariant-loop-square
invariant-loop-square l = record {
  size : length l.around.items ≡ l.square;
  room : length l.cells ≤ vec_capacity l.around;
  column : l.column ≡ l.square % l.cols;
  each : (q : ℕ) (e : Around) → q < l.square → get_or l.around.items q e ≡ around_of (record { cols = l.cols; cells = l.cells }) q;
}
