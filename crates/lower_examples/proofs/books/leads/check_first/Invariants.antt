use Rattle.std.proofs.Common.{◌≡◌, ℕ, ◌<◌, Some}
use Rattle.std.specs.Prelude.{slice_get}
use Rattle.layers.specs.LayerView.{LayerView}
use Rattle.solo.specs.Leads.{level_of}
use Rattle.lower_examples.proofs.books.leads.check_first.Given as goal

abbrev pub invariant-loop-place : goal.invariant-loop-place
invariant-loop-place g l = (j : ℕ) (layer : LayerView) → j < l.place → slice_get l.layers j ≡ Some layer →
    (layer.level ≡ level_of l.layers) × (layer.number ≡ j)
