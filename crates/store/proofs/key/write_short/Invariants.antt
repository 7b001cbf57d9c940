use Rattle.std.proofs.Common.{◌≡◌, ◌∷◌, take}
use Rattle.store.specs.inside.KeyRows.{high_bytes, low_bytes, zero_padded}
use Rattle.store.specs.declared.key.TheConstants.{SHORT}
use Rattle.store.proofs.key.write_short.Given as goal

abbrev pub invariant-loop-index : goal.invariant-loop-index
invariant-loop-index l =
    (l.low ≡ zero_padded SHORT (low_bytes (l.fn.player ∷ take l.index l.boxes))) × (l.high ≡ zero_padded SHORT (high_bytes (l.fn.player ∷ take l.index l.boxes)))
