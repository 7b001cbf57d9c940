-- The first layers of a level, the first solved position of a layer, and the play that leads to a position.
use Rattle.std.specs.Prelude.{◌≡◌, ℕ, ◌-◌, ◌<◌, ◌≤◌, false, List, [], ◌∷◌, length, slice_get, Option, None, Some}
use Rattle.std.specs.Ordering.{is_gt}
use Rattle.grid.specs.declared.dir.Dir.{Dir}
use Rattle.grid.specs.declared.square.Push.{Push}
use Rattle.grid.specs.declared.moves.Letter.{Letter}
use Rattle.grid.specs.Board.{Board, Scene, IsSolved, start, dir_cmp}
use Rattle.grid.specs.Plays.{Play, Any, shortlex, dirs_of, letters_of}
use Rattle.layers.specs.LayerView.{LayerView}
use Rattle.successors.specs.Problems.{Problem}
use Rattle.successors.specs.Capping.{uncapped}
use Rattle.layers.specs.Leads.{IsLeadOf}

-- none of the positions has all its boxes on goals
abbrev pub AreUnsolved : Board → List Scene → Type 0
AreUnsolved board places = (r : ℕ) (n : Scene) → slice_get places r ≡ Some n → ¬ (IsSolved board n)

-- the rank is the least of those whose position has all its boxes on goals
pub record IsFirstSolved (board : Board) (places : List Scene) (rank : ℕ) : Type 0 where
  pub place : Scene
  pub there : slice_get places rank ≡ Some place
  pub solved : IsSolved board place
  pub first : (r : ℕ) (n : Scene) → r < rank → slice_get places r ≡ Some n → ¬ (IsSolved board n)

-- the level with its cap of a list of layers, which is that of the first one
abbrev pub level_of : List LayerView → Problem
level_of [] = uncapped (record { cols = 0; cells = [] })
level_of (layer ∷ layers) = layer.level

-- the positions of a layer, if there is one
abbrev pub places_or_none : Option LayerView → List Scene
places_or_none None = []
places_or_none (Some layer) = layer.places

-- the positions of the last one of a list of layers
abbrev pub last_places : List LayerView → List Scene
last_places layers = places_or_none (slice_get layers (length layers - 1))

-- the list is layers 0 to k of one level under one cap, for some k
pub record AreFirstLayers (layers : List LayerView) : Type 0 where
  pub some : 1 ≤ length layers
  pub each : (j : ℕ) (layer : LayerView) → slice_get layers j ≡ Some layer → (layer.level ≡ level_of layers) ×
      (layer.number ≡ j)

-- the letters write a play from the start whose pushes are the lead of the position n, and no play with these pushes
-- is shorter, or as short and of a lesser text
pub record WritesLead (board : Board) (n : Scene) (letters : List Letter) : Type 0 where
  pub pushes : List Push
  pub lead : IsLeadOf board n pushes
  pub end : Scene
  pub play : Play board Any (start board) (dirs_of letters) pushes end
  pub written : letters_of play ≡ letters
  pub least : (es : List Dir) (t : Scene) → Play board Any (start board) es pushes t →
      is_gt (shortlex dir_cmp (dirs_of letters) es) ≡ false
