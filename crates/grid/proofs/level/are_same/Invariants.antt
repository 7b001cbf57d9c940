use Rattle.std.proofs.Common.{◌≡◌, ◌↔◌, ◌<◌, ℕ, IsTrue, length, get_or}
use Rattle.grid.specs.declared.cell.Cell.TheVariants.{Wall}
use Rattle.grid.proofs.level.are_same.Given as goal

abbrev pub invariant-loop-place : goal.invariant-loop-place
invariant-loop-place l =
    (length l.cells ≡ length l.others) × (IsTrue l.same ↔ ((i : ℕ) → i < l.place → get_or l.cells i Wall ≡ get_or l.others i Wall))
