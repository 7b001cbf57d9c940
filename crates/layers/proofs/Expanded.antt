-- The successors of the positions of a layer.
use Rattle.std.proofs.Common.{◌≡◌, ℕ, List, Option, Some, sym, subst, ◌∙◌}
use Rattle.std.proofs.lemmas.Option.{same_Some}
use Rattle.std.specs.Prelude.{slice_get}
use Rattle.grid.specs.Board.{Board, Scene}
use Rattle.grid.specs.States.{FitsLevel}
use Rattle.grid.specs.Lawful.{IsLevel}
use Rattle.doom.specs.Deadlocks.{Undoomed}
use Rattle.successors.specs.declared.parcel.Successor.{Successor}
use Rattle.successors.specs.Problems.{Problem}
use Rattle.successors.specs.Capping.{capped}
use Rattle.successors.specs.Reaching.{IsLayerOf}
use Rattle.successors.specs.ParcelView.{AreSuccessors, IsRanked}
use Rattle.layers.specs.LayerView.{LayerView, IsWhole}

-- the successors of the position with a rank are told of each position with that rank, by the layer's own level and number
pub of_place : (places : List Scene) (rank : ℕ) (n : Scene) → slice_get places rank ≡ Some n → (level same : Problem) → level ≡ same → (number layer : ℕ) →
    number ≡ layer → (ss : List Successor) → AreSuccessors level number n ss → (m : Scene) → slice_get places rank ≡ Some m → AreSuccessors same layer m ss
of_place places rank n here level same e number layer f ss come m there =
    let g = same_Some n m (sym here ∙ there) in
    subst (λ (x : Scene). AreSuccessors same layer x ss) g (subst (λ (k : ℕ). AreSuccessors same k n ss) f
    (subst (λ (t : Problem). AreSuccessors t number n ss) e come))

-- the position with a rank of a whole layer is one that may be expanded
pub is_source : (v : LayerView) → IsWhole v → (board : Board) (cap : Option ℕ) (number rank : ℕ) (n : Scene) → board ≡ v.level.board → cap ≡ v.level.cap →
    number ≡ v.number → slice_get v.places rank ≡ Some n → FitsLevel v.level.board n → Undoomed v.level.board n → IsRanked board (record {
      cap = cap;
      layer = number;
      rank = rank;
      position = n;
    })
is_source v whole board cap number rank n same e named here fits undoomed = record {
  lawful = subst IsLevel (sym same) whole.lawful;
  places = v.places;
  layer = subst (λ (k : ℕ). IsLayerOf (capped board cap) k v.places) (sym named)
      (subst (λ (t : Problem). IsLayerOf t v.number v.places) (λ i. record { board = sym same i; cap = sym e i }) whole.layer);
  place = here;
  fits = subst (λ (b : Board). FitsLevel b n) (sym same) fits;
  undoomed = subst (λ (b : Board). Undoomed b n) (sym same) undoomed;
}
