-- Positions that a search has found before.
use Rattle.std.specs.Prelude.{◌≡◌, ℕ, ◌≤◌, List, slice_get, Some}
use Rattle.grid.specs.Board.{Scene}
use Rattle.store.specs.Visited.{Node}

-- the position was found with at most k pushes
abbrev pub IsFoundWithin : List Node → ℕ → Scene → Type 0
IsFoundWithin all k s = (i : ℕ) × (x : Node) × (slice_get all i ≡ Some x) × (x.position ≡ s) × (x.pushes ≤ k)
