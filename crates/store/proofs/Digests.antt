-- The number that stands for a key, by the key's rows.
use Rattle.std.proofs.Common.{◌≡◌, ◌≢◌, ℕ, zero, suc, List, refl, ap, ◌∙◌, arith}
use Rattle.std.specs.Hash.FoldHasher as folding
use Rattle.grid.specs.Board.{Scene}
use Rattle.store.specs.inside.KeyRows.{IsKey, key_digest, key_scene, key_squares, low_bytes, zero_padded}

-- the rows are those of the position that they show
low_of : (n k count : ℕ) (low high : List ℕ) (m : Scene) → IsKey n k count low high → key_scene count low high ≡ m →
    low ≡ zero_padded n (low_bytes (key_squares m))
low_of n k count low high m key view = key.low_is ∙ ap (λ (s : Scene). zero_padded n (low_bytes (key_squares s))) view

-- of a key without high bytes
pub low_digest : (n k count : ℕ) (low high : List ℕ) (m : Scene) → IsKey n k count low high → key_scene count low high ≡ m → k ≡ 0 →
    folding.finish (folding.write folding.initial low) ≡ key_digest n k m
unfolding key_digest
low_digest n zero count low high m key view none = λ i. folding.finish (folding.write folding.initial (low_of n zero count low high m key view i))
low_digest n (suc k) count low high m key view none = absurd (omega (arith, none))

-- of a key with both rows
pub both_digest : (n k count : ℕ) (low high : List ℕ) (m : Scene) → IsKey n k count low high → key_scene count low high ≡ m → k ≢ 0 →
    folding.finish (folding.write (folding.write folding.initial low) high) ≡ key_digest n k m
unfolding key_digest
both_digest n zero count low high m key view some = absurd (some refl)
both_digest n (suc k) count low high m key view some = grind arith
