use Rattle.std.proofs.Common.{◌≡◌, ◌<◌, ℕ, Some, slice_get}
use Rattle.regions.specs.declared.listing.WalkStep.{WalkStep}
use Rattle.regions.specs.inside.Listing.{WalkKeeps}
use Rattle.regions.proofs.steps.walks_keep.Given as goal

abbrev pub invariant-loop-walk : goal.invariant-loop-walk
invariant-loop-walk l = (i : ℕ) (w : WalkStep) → i < l.walk-index → slice_get l.walks i ≡ Some w → WalkKeeps l.table l.bits l.row w
