-- What contracts see of the positions that a search has visited.
use Rattle.std.specs.Prelude.{◌≡◌, ℕ, ◌<◌, ◌≤◌, ◌⊎◌, List, [], ◌∷◌, ◌++◌, length, map, slice_get, slice_set, Option}
use Rattle.std.specs.Prelude.{Some, None}
use Rattle.grid.specs.Board.{Scene}
use Rattle.store.specs.declared.visited.Label.{Label}
use Rattle.store.specs.declared.visited.Parent.{Parent}

-- a position that was visited: after how many pushes, the least total of pushes for which it is still to be expanded,
-- if it is open, and the push that led to it, if one did
pub record Node : Type 0 where
  pub position : Scene
  pub pushes : ℕ
  pub least : Option ℕ
  pub parent : Option Parent

-- how many boxes each position has at most, how many squares the grid has, and the entries in the order in which
-- their positions were first entered
pub record VisitedView : Type 0 where
  pub boxes : ℕ
  pub squares : ℕ
  pub entries : List Node

-- the entry of a position with its label
abbrev pub entry_of : Scene × Label → Node
entry_of e = record { position = e.0; pushes = e.1.pushes; least = e.1.least; parent = e.1.parent }

abbrev pub entries_of : List (Scene × Label) → List Node
entries_of es = map entry_of es

abbrev pub visited_view : ℕ → ℕ → List (Scene × Label) → VisitedView
visited_view boxes squares es = record { boxes = boxes; squares = squares; entries = entries_of es }

-- no entry has the position
abbrev pub IsNew : List Node → Scene → Type 0
IsNew all m = (i : ℕ) (x : Node) → slice_get all i ≡ Some x → ¬ (x.position ≡ m)

-- the entry comes last, where none had its position, or takes the place of one that had it with more pushes; or
-- nothing changes, and one has its position with no more pushes
abbrev pub HasEntered : List Node → List Node → Node → Option ℕ → Type 0
HasEntered old new e (Some place) =
    ((place ≡ length old) × (new ≡ old ++ e ∷ []) × IsNew old e.position) ⊎
    ((x : Node) × (slice_get old place ≡ Some x) × (x.position ≡ e.position) × (e.pushes < x.pushes) ×
    (new ≡ slice_set old place e))
HasEntered old new e None =
    (new ≡ old) × ((i : ℕ) × (x : Node) × (slice_get old i ≡ Some x) × (x.position ≡ e.position) ×
    (x.pushes ≤ e.pushes))

-- the entry with this least total; without one it is closed
abbrev pub with_least : Option ℕ → Node → Node
with_least least x = record { position = x.position; pushes = x.pushes; least = least; parent = x.parent }
