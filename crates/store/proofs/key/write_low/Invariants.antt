use Rattle.std.proofs.Common.{◌≡◌, ◌∷◌, length, take}
use Rattle.store.specs.inside.KeyRows.{low_bytes, zero_padded}
use Rattle.store.proofs.key.write_low.Given as goal

abbrev pub invariant-loop-index : goal.invariant-loop-index
invariant-loop-index l = (l.row ≡ zero_padded (length l.fn.row) (low_bytes (l.fn.player ∷ take l.index l.boxes))) × (length l.row ≡ length l.fn.row)
