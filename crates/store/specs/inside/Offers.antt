-- The offers of successors at indices.
use Rattle.std.specs.Prelude.{ℕ, List, [], ◌∷◌, ◌++◌, slice_get, Option, Some, None}
use Rattle.grid.specs.declared.square.Push.{Push}
use Rattle.grid.specs.Board.{Scene}
use Rattle.store.specs.Entries.{OpenEntry}
use Rattle.successors.specs.declared.parcel.Successor.{Successor}

-- the offer of a rank's successor, if there is one
abbrev pub offer_in : ℕ → Option Successor → List (OpenEntry Scene Push)
offer_in rank None = []
offer_in rank (Some s) = (s.position, (rank, s.push)) ∷ []

-- the offers of a rank's successors at these indices
abbrev pub offers_at : ℕ → List Successor → List ℕ → List (OpenEntry Scene Push)
offers_at rank ss [] = []
offers_at rank ss (p ∷ ps) = offer_in rank (slice_get ss p) ++ offers_at rank ss ps
