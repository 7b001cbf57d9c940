-- The places of a parcel's successors, dealt to the shares.
use Rattle.std.specs.Prelude.{◌≡◌, ℕ, suc, ◌+◌, ◌*◌, ◌%◌, ◌<◌, ◌≤◌, ◌==◌, List, [], ◌∷◌, map, get_or, take, drop}
use Rattle.std.specs.Prelude.{if◌then◌else◌}
use Rattle.successors.specs.declared.parcel.Successor.{Successor}
use Rattle.successors.specs.declared.limits.TheConstants.{MAX_SHARES}
use Rattle.successors.specs.declared.dealing.TheConstants.{MOST_DEALT}
use Rattle.successors.specs.inside.Sums.{scene_sum}

-- the places of the sums of this share, counted from k
abbrev pub share_places : ℕ → ℕ → ℕ → List ℕ → List ℕ
share_places shares share k [] = []
share_places shares share k (x ∷ xs) =
    if x % shares == share then k ∷ share_places shares share (suc k) xs else share_places shares share (suc k) xs

-- the places of those successors that are of the share
abbrev pub successor_places : ℕ → ℕ → List Successor → List ℕ
successor_places shares share ss = share_places shares share 0 (map (λ s. scene_sum s.position) ss)

-- the row of a share begins with the places of its successors
pub record IsDealtRow (shares share : ℕ) (rows lens sums : List ℕ) : Type 0 where
  pub within : get_or lens share 0 ≤ MOST_DEALT
  pub places : drop (share * MOST_DEALT) (take (share * MOST_DEALT + get_or lens share 0) rows) ≡
      share_places shares share 0 sums

-- the row of each share begins with the places of its successors
abbrev pub AllListed : ℕ → List ℕ → List ℕ → List ℕ → Type 0
AllListed shares rows lens sums = (share : ℕ) → share < shares → IsDealtRow shares share rows lens sums

-- successors with these sums are dealt to `shares` shares, at most MAX_SHARES; with 0 shares nothing is claimed
abbrev pub IsDealt : ℕ → List ℕ → List ℕ → List ℕ → Type 0
IsDealt shares rows lens sums = (shares ≤ MAX_SHARES) × AllListed shares rows lens sums
