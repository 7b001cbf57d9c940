-- A lead that is retraced through layers.
use Rattle.std.specs.Prelude.{◌≡◌, ℕ, List, [], ◌∷◌, ◌++◌, slice_get, Some}
use Rattle.grid.specs.declared.square.Push.{Push}
use Rattle.grid.specs.Board.{Scene}
use Rattle.layers.specs.LayerView.{LayerView}
use Rattle.store.specs.Entries.{Origin}
use Rattle.successors.specs.Problems.{Problem}
use Rattle.layers.specs.Leads.{IsLeadOf}
use Rattle.solo.specs.Leads.{last_places}

-- the pushes are the lead of the position with a rank of a list
pub record IsLeadAt (problem : Problem) (places : List Scene) (rank : ℕ) (pushes : List Push) : Type 0 where
  pub place : Scene
  pub there : slice_get places rank ≡ Some place
  pub lead : IsLeadOf problem.board place pushes

-- the position with a rank comes from a position of the layer before by a push, and so does its lead
pub record IsOriginAt (problem : Problem) (before places : List Scene) (rank : ℕ) (o : Origin Push) : Type 0 where
  pub place : Scene
  pub there : slice_get places rank ≡ Some place
  pub parent : Scene
  pub parent_there : slice_get before o.0 ≡ Some parent
  pub lead : (ps : List Push) → IsLeadOf problem.board parent ps → IsLeadOf problem.board place (ps ++ o.1 ∷ [])

-- the lead of the position asked for, of the last layer, was read back to a position of layer number: with the pushes
-- that were read behind it, the lead of that position is the lead of the one asked for
pub record IsReadBack (layers : List LayerView) (problem : Problem) (asked number rank : ℕ) (late : List Push) : Type 0 where
  pub layer : LayerView
  pub in_layer : slice_get layers number ≡ Some layer
  pub place : Scene
  pub there : slice_get layer.places rank ≡ Some place
  pub end : Scene
  pub asked_for : slice_get (last_places layers) asked ≡ Some end
  pub lead : (ps : List Push) → IsLeadOf problem.board place ps → IsLeadOf problem.board end (ps ++ late)
