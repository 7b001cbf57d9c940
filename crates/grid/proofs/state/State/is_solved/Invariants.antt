use Rattle.std.proofs.Common.{◌≡◌, ℕ, ◌<◌, true, get_or}
use Rattle.grid.specs.declared.cell.Cell.TheVariants.{Wall}
use Rattle.grid.specs.Board.{goal_cell}
use Rattle.grid.specs.Squares.{contains}
use Rattle.grid.proofs.state.State.is_solved.Given as goal

abbrev pub invariant-loop-i : goal.invariant-loop-i
invariant-loop-i l = (k : ℕ) → k < l.i → contains l.self.boxes k ≡ true → goal_cell (get_or l.cells k Wall) ≡ true
