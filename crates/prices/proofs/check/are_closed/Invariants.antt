use Rattle.std.proofs.Common.{◌≡◌, ◌<◌, ℕ, Some, slice_get}
use Rattle.prices.specs.declared.table.Side.{Side}
use Rattle.prices.specs.inside.Checks.{IsClosed}
use Rattle.prices.specs.inside.Tables.{sides_of}
use Rattle.prices.proofs.check.are_closed.Given as goal

abbrev pub invariant-loop-side : goal.invariant-loop-side
invariant-loop-side l =
    (i : ℕ) → i < l.side-index → (s : Side)
    → slice_get (sides_of l.table.spots.items l.table.sides.items l.square) i ≡ Some s → IsClosed l.level l.table l.square s
