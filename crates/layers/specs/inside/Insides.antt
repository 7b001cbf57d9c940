-- What contracts see of the fields of a layer.
use Rattle.std.specs.Prelude.{◌≡◌, ℕ, zero, suc, ◌*◌, ◌≤◌, List, [], ◌∷◌, take, drop, length, slice_index_or}
use Rattle.std.specs.Arc.{arc_value}
use Rattle.grid.specs.Board.{Scene}
use Rattle.grid.specs.Lawful.{box_count}
use Rattle.grid.specs.declared.limits.TheConstants.{MAX_BOXES}
use Rattle.layers.specs.declared.layer.Layer.TheInside.{Inside as LayerInside}
use Rattle.layers.specs.LayerView.{LayerView, IsWhole}

-- count positions with boxes boxes each, read from their squares
abbrev pub scenes_of : ℕ → ℕ → List ℕ → List Scene
scenes_of boxes zero xs = []
scenes_of boxes (suc count) xs =
    record { boxes = take boxes xs; player = slice_index_or xs boxes 0 } ∷ scenes_of boxes count (drop (suc boxes) xs)

abbrev pub layer_view : LayerInside → LayerView
layer_view a = record {
  level = arc_value a.problem;
  number = a.number;
  places = scenes_of (box_count (arc_value a.problem).board) a.count a.squares.items;
  origins = a.origins.items;
}

-- the fields are those of a whole layer with at most MAX_BOXES boxes, and each of its positions has its squares
pub record IsSoundLayer (a : LayerInside) : Type 0 where
  pub whole : IsWhole (layer_view a)
  pub few : box_count (arc_value a.problem).board ≤ MAX_BOXES
  pub squares : length a.squares.items ≡ a.count * suc (box_count (arc_value a.problem).board)
