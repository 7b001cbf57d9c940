use Rattle.std.proofs.Common.{ℕ, ◌<◌}
use Rattle.regions.specs.inside.Checks.{IsListedAt}
use Rattle.regions.proofs.check.are_squares_listed.Given as goal

abbrev pub invariant-loop-index : goal.invariant-loop-index
invariant-loop-index l = (q : ℕ) → q < l.index → IsListedAt l.table l.seats.boxes q
