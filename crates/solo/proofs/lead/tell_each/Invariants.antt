use Rattle.std.proofs.Common.{◌≡◌, ℕ, ◌<◌, Some, slice_get}
use Rattle.layers.specs.LayerView.{LayerView, IsWhole}
use Rattle.solo.proofs.lead.tell_each.Given as goal

abbrev pub invariant-loop-layer : goal.invariant-loop-layer
invariant-loop-layer l =
    (j : ℕ) (layer : LayerView) → j < l.layer-index → slice_get l.layers j ≡ Some layer → IsWhole layer
