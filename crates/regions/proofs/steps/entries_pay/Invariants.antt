use Rattle.std.proofs.Common.{◌≡◌, ◌<◌, ℕ, Some, slice_get}
use Rattle.regions.specs.declared.listing.PushStep.{PushStep}
use Rattle.regions.specs.inside.Listing.{PaysFor}
use Rattle.regions.proofs.steps.entries_pay.Given as goal

abbrev pub invariant-loop-push : goal.invariant-loop-push
invariant-loop-push l = (i : ℕ) (p : PushStep) → i < l.push-index → slice_get l.entries i ≡ Some p → PaysFor l.table l.set.bits l.set.high l.set.low p
