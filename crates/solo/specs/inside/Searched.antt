-- The layers that a search has looked at, and the count of their positions, without regard to books, workers or shares.
use Rattle.std.specs.Prelude.{◌≡◌, ℕ, ◌+◌, ◌<◌, ◌≤◌, List, [], ◌∷◌, ◌++◌, length, map, slice_get, Some}
use Rattle.grid.specs.declared.square.Push.{Push}
use Rattle.grid.specs.Board.{Scene}
use Rattle.successors.specs.Problems.{Problem}
use Rattle.layers.specs.LayerView.{LayerView, IsWhole}
use Rattle.store.specs.Entries.{Origin}
use Rattle.successors.specs.Reaching.{AreLayersOf, total}
use Rattle.solo.specs.Leads.{AreUnsolved}

-- layers that were searched: the first layers of the level, none of them empty, none with a solved position
pub record AreSearched (problem : Problem) (layers : List (List Scene)) : Type 0 where
  pub are : AreLayersOf problem layers
  pub filled : (j : ℕ) (xs : List Scene) → slice_get layers j ≡ Some xs → 1 ≤ length xs
  pub unsolved : (j : ℕ) (xs : List Scene) → slice_get layers j ≡ Some xs → AreUnsolved problem.board xs

-- the positions of each of the layers
abbrev pub places_by_layer : List LayerView → List (List Scene)
places_by_layer layers = map (λ layer. layer.places) layers

-- the first layers of the level, and for each the origins of its positions
pub record AreTrailed (problem : Problem) (layers : List LayerView) (trail : List (List (Origin Push))) : Type 0 where
  pub each : (j : ℕ) (layer : LayerView) → slice_get layers j ≡ Some layer → (layer.level ≡ problem) ×
      (layer.number ≡ j) × IsWhole layer
  pub shown : map (λ layer. layer.origins) layers ≡ trail

-- the layer comes next after those whose origins are kept
pub record IsNextOf (trail : List (List (Origin Push))) (layer : LayerView) : Type 0 where
  pub layers : List LayerView
  pub trailed : AreTrailed layer.level layers trail
  pub number : layer.number ≡ length trail

-- the search has looked at the layers whose origins are kept: the first ones of the level, none of them empty, none
-- with a solved position; positions is their number of positions, no more than the limit
pub record IsLookedAt (problem : Problem) (limit : ℕ) (trail : List (List (Origin Push))) (positions : ℕ) : Type 0 where
  pub layers : List LayerView
  pub trailed : AreTrailed problem layers trail
  pub searched : AreSearched problem (places_by_layer layers)
  pub count : positions ≡ total (places_by_layer layers)
  pub within : positions ≤ limit

-- ---- the state of a search

-- the level, the limit, the origins of the positions of each layer that was looked at, and the number of positions
pub record SearchView : Type 0 where
  pub problem : Problem
  pub limit : ℕ
  pub trail : List (List (Origin Push))
  pub positions : ℕ

-- the search before it looks at a layer
abbrev pub new_search : Problem → ℕ → SearchView
new_search problem limit = record { problem = problem; limit = limit; trail = []; positions = 0 }

-- the search with one more layer
abbrev pub with_layer : SearchView → LayerView → SearchView
with_layer s layer =
    record s { trail = s.trail ++ layer.origins ∷ []; positions = s.positions + length layer.places }

-- the layer comes next in the search
abbrev pub IsNextLayer : SearchView → LayerView → Type 0
IsNextLayer s layer = (layer.level ≡ s.problem) × (layer.number ≡ length s.trail)

-- the search has looked at the layer that comes next: it is not empty and has no solved position, and with it the
-- positions are no more than the limit
pub record IsExamined (s : SearchView) (layer : LayerView) : Type 0 where
  pub looked : IsLookedAt s.problem s.limit (s.trail ++ layer.origins ∷ []) (s.positions + length layer.places)
  pub filled : 0 < length layer.places
