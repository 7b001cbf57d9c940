use Rattle.std.proofs.Common.{◌≡◌, ◌≢◌, ◌<◌, ℕ}
use Rattle.std.specs.Int.RustNames.{bit_and}
use Rattle.regions.specs.inside.Listing.{bit_of}
use Rattle.regions.proofs.listing.is_apart.Given as goal

abbrev pub invariant-loop-index : goal.invariant-loop-index
invariant-loop-index l = (q : ℕ) → q < l.index → l.seat ≢ q → bit_and (bit_of l.bits l.seat) (bit_of l.bits q) ≡ 0
