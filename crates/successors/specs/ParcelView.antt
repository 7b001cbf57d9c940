-- What contracts see of a parcel, and what is true of each.
use Rattle.std.specs.Prelude.{◌≡◌, ℕ, ◌<◌, List, [], ◌∷◌, ◌++◌, ◌⊎◌, slice_get, Some}
use Rattle.std.specs.declared.cmp.Ordering.TheVariants.{Less}
use Rattle.grid.specs.declared.square.Push.{Push}
use Rattle.grid.specs.Board.{Board, Scene, push_cmp}
use Rattle.grid.specs.States.{FitsLevel}
use Rattle.grid.specs.Lawful.{IsLevel}
use Rattle.doom.specs.Deadlocks.{Undoomed}
use Rattle.successors.specs.declared.parcel.Successor.{Successor}
use Rattle.successors.specs.declared.expansion.RankedPosition.{RankedPosition}
use Rattle.successors.specs.Problems.{Problem}
use Rattle.successors.specs.Capping.{capped}
use Rattle.successors.specs.Reaching.{IsLayerOf}
use Rattle.successors.specs.Expansion.{IsSuccessor, IsSuccessorIn}

-- a parcel: the level with its cap, a layer's number, a rank of it, and the successors of the position with that rank
pub record ParcelView : Type 0 where
  pub level : Problem
  pub layer : ℕ
  pub rank : ℕ
  pub successors : List Successor

-- ss is those undoomed successors of a position n of layer k that are admitted in the next one, with their pushes, each
-- once, in the order of the pushes
pub record AreSuccessors (problem : Problem) (k : ℕ) (n : Scene) (ss : List Successor) : Type 0 where
  pub each : (i : ℕ) (s : Successor) → slice_get ss i ≡ Some s → IsSuccessorIn problem k n s.push s.position
  pub rise : (i j : ℕ) (s t : Successor) → i < j → slice_get ss i ≡ Some s → slice_get ss j ≡ Some t →
      push_cmp s.push t.push ≡ Less
  pub whole : (p : Push) (m : Scene) → IsSuccessorIn problem k n p m → (i : ℕ) ×
      (slice_get ss i ≡ Some (record { push = p; position = m }))

-- each successor is a position of the level
abbrev pub FitLevel : Board → List Successor → Type 0
FitLevel board ss = (i : ℕ) (s : Successor) → slice_get ss i ≡ Some s → FitsLevel board s.position

-- `more` is `ss` and after it what the push leads to; or it is `ss`, where the push leads to no successor
abbrev pub IsAppended : Board → Scene → Push → List Successor → List Successor → Type 0
IsAppended board n p ss more =
    ((s : Successor) × (more ≡ ss ++ s ∷ []) × (s.push ≡ p) × IsSuccessor board n p s.position ×
    FitsLevel board s.position) ⊎
    ((more ≡ ss) × ((m : Scene) → ¬ (IsSuccessor board n p m)))

-- the parcel of a rank of its layer holds exactly the undoomed successors of the position there that are admitted
pub record IsParcel (v : ParcelView) : Type 0 where
  pub lawful : IsLevel v.level.board
  pub places : List Scene
  pub layer : IsLayerOf v.level v.layer places
  pub place : (n : Scene) × (slice_get places v.rank ≡ Some n) × AreSuccessors v.level v.layer n v.successors
  pub fits : FitLevel v.level.board v.successors

-- the position has the rank in the layer of a lawful level under the cap, and is undoomed
pub record IsRanked (board : Board) (s : RankedPosition) : Type 0 where
  pub lawful : IsLevel board
  pub places : List Scene
  pub layer : IsLayerOf (capped board s.cap) s.layer places
  pub place : slice_get places s.rank ≡ Some s.position
  pub fits : FitsLevel board s.position
  pub undoomed : Undoomed board s.position
