-- What the workers of a layer share.
use Rattle.std.specs.Prelude.{◌≡◌, ℕ, ◌≤◌, length}
use Rattle.layers.specs.LayerView.{LayerView}
use Rattle.successors.specs.Problems.{Problem}
use Rattle.claims.specs.Hands.{LedgerView}

-- the layer, the ledger of its ranks, the number of books, and the number of workers for which they are made
pub record SharedView : Type 0 where
  pub layer : LayerView
  pub ledger : LedgerView
  pub books : ℕ
  pub workers : ℕ

-- the problem is the layer's, and each rank of the ledger is one of the layer
abbrev pub AreOfOneLayer : LayerView → Problem → LedgerView → Type 0
AreOfOneLayer layer problem ledger = (problem ≡ layer.level) × (ledger.len ≤ length layer.places)
