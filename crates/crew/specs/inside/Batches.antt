-- The ranks that a worker draws before it hands back, and their parcels.
use Rattle.std.specs.Prelude.{◌≡◌, ℕ, ◌<◌, ◌≤◌, List, ◌++◌, length, map, slice_get, take, Some}
use Rattle.layers.specs.LayerView.{LayerView}
use Rattle.successors.specs.ParcelView.{ParcelView}
use Rattle.claims.specs.declared.views.Hand.{Hand}
use Rattle.crew.specs.Work.{IsOfLayer}

-- the parcel is that of a rank of the layer
abbrev pub IsParcelOfRank : LayerView → ℕ → ParcelView → Type 0
IsParcelOfRank layer rank parcel = IsOfLayer layer parcel × (parcel.rank ≡ rank)

-- each parcel is of the layer
abbrev pub AreOfLayer : LayerView → List ParcelView → Type 0
AreOfLayer layer parcels = (i : ℕ) (parcel : ParcelView) → slice_get parcels i ≡ Some parcel → IsOfLayer layer parcel

-- each rank is one of the layer
abbrev pub AreRanks : LayerView → List ℕ → Type 0
AreRanks layer ranks = (i rank : ℕ) → slice_get ranks i ≡ Some rank → rank < length layer.places

-- the first ranks of a list are those that the hand has drawn since, in order, and each is one of the layer
pub record AreDrawn (layer : LayerView) (before : Hand) (count : ℕ) (ranks : List ℕ) (after : Hand) : Type 0 where
  pub few : count ≤ length ranks
  pub within : AreRanks layer (take count ranks)
  pub drawn : after.numbers ≡ before.numbers ++ take count ranks

-- the first parcels of a list are those of the first ranks, in order
pub record AreExpanded (layer : LayerView) (ranks : List ℕ) (count : ℕ) (parcels : List ParcelView) : Type 0 where
  pub of : AreOfLayer layer (take count parcels)
  pub ranks_are : map (λ parcel. parcel.rank) (take count parcels) ≡ take count ranks

-- a batch: the parcels of exactly the ranks that the hand has drawn since, in order
pub record IsBatch (layer : LayerView) (before : Hand) (batch : List ParcelView) (after : Hand) : Type 0 where
  pub of : AreOfLayer layer batch
  pub drawn : after.numbers ≡ before.numbers ++ map (λ parcel. parcel.rank) batch
