use Rattle.std.proofs.Common.{◌≡◌, ℕ, ◌<◌, true, false, slice_index}
use Rattle.grid.specs.Squares.{contains}
use Rattle.area.specs.declared.spread.TheConstants.{BOX_MARK}
use Rattle.area.proofs.route.block_boxes.Given as goal

abbrev pub invariant-loop-i : goal.invariant-loop-i
invariant-loop-i l =
    (q : ℕ) → (contains l.state.boxes q ≡ true → q < l.i → slice_index l.marks q ≡ BOX_MARK) × (contains l.state.boxes q ≡ false → slice_index l.marks q < BOX_MARK)
