use Rattle.std.proofs.Common.{◌≡◌, ℕ, ◌<◌, ◌↔◌, true, length, slice_index}
use Rattle.grid.specs.Masks.{has_bit}
use Rattle.area.specs.declared.spread.TheConstants.{BOX_MARK}
use Rattle.area.proofs.steps.put_marked.Given as goal

abbrev pub invariant-loop-index : goal.invariant-loop-index
invariant-loop-index l = record {
  size : length l.reached ≡ length l.fn.reached;
  put : (q : ℕ) → (has_bit l.reached q ≡ true) ↔ ((q < l.index) × (BOX_MARK < slice_index l.marks q));
}
