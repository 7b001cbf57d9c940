-- The origin of a position's lead.
use Rattle.std.specs.Prelude.{◌≡◌, ℕ, List, [], ◌∷◌, ◌++◌, slice_get, Some}
use Rattle.grid.specs.declared.square.Push.{Push}
use Rattle.grid.specs.Board.{Scene}
use Rattle.store.specs.Entries.{Origin}
use Rattle.successors.specs.Problems.{Problem}
use Rattle.successors.specs.Reaching.{IsLayerOf}
use Rattle.layers.specs.Leads.{IsLeadOf}

-- the push o.1 leads from rank o.0 of layer k to m, and so does the lead of m
abbrev pub HasOrigin : Problem → ℕ → Scene → Origin Push → Type 0
HasOrigin problem k m o = (xs : List Scene) → IsLayerOf problem k xs →
    (n : Scene) × (slice_get xs o.0 ≡ Some n) ×
    ((ps : List Push) → IsLeadOf problem.board n ps → IsLeadOf problem.board m (ps ++ o.1 ∷ []))
