-- What contracts see of a layer, and the invariant of each.
use Rattle.std.specs.Prelude.{◌≡◌, ℕ, suc, ◌+◌, ◌≤◌, List, [], length, slice_get, Some}
use Rattle.grid.specs.declared.square.Push.{Push}
use Rattle.grid.specs.Board.{Scene}
use Rattle.grid.specs.States.{FitsLevel}
use Rattle.grid.specs.Lawful.{IsLevel}
use Rattle.layers.specs.declared.limits.TheConstants.{MOST_POSITIONS}
use Rattle.store.specs.Entries.{Origin}
use Rattle.successors.specs.Problems.{Problem}
use Rattle.successors.specs.Reaching.{IsLayerOf, AreLayersOf, total}
use Rattle.layers.specs.Origins.{HasOrigin}

-- a layer: its level with its cap, its number, its normal positions by rank, and for each the rank of its parent in
-- the layer before with its push; layer 0 has no parents
pub record LayerView : Type 0 where
  pub level : Problem
  pub number : ℕ
  pub places : List Scene
  pub origins : List (Origin Push)

-- each position has its parent's rank and the push that ends its lead
pub record HaveOrigins (problem : Problem) (k : ℕ) (places : List Scene) (origins : List (Origin Push)) : Type 0 where
  pub each : length origins ≡ length places
  pub right : (r : ℕ) (m : Scene) (o : Origin Push) → slice_get places r ≡ Some m → slice_get origins r ≡ Some o →
      HasOrigin problem k m o

-- the whole layer of its level under its cap, in the order of the leads; layers 0 to this one have at most
-- `MOST_POSITIONS` positions
pub record IsWhole (v : LayerView) : Type 0 where
  pub lawful : IsLevel v.level.board
  pub layer : IsLayerOf v.level v.number v.places
  pub fits : (r : ℕ) (m : Scene) → slice_get v.places r ≡ Some m → FitsLevel v.level.board m
  pub first : v.number ≡ 0 → v.origins ≡ []
  pub later : (k : ℕ) → v.number ≡ suc k → HaveOrigins v.level k v.places v.origins
  pub most : (before : List (List Scene)) × AreLayersOf v.level before × (length before ≡ v.number) ×
      (total before + length v.places ≤ MOST_POSITIONS)
