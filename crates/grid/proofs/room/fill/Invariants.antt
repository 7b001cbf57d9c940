use Rattle.grid.specs.inside.Filling.{IsFilling, work}
use Rattle.grid.proofs.room.fill.Given as goal

abbrev pub invariant-loop-square : goal.invariant-loop-square
invariant-loop-square l = IsFilling (record { cols = l.cols; cells = l.cells }) l.room l.pending.items

abbrev pub decreases-loop-square : goal.decreases-loop-square
decreases-loop-square l = work l.room l.pending.items
