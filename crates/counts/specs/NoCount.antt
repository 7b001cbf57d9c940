-- Digits that are no count.
use Rattle.std.specs.Prelude.{ℕ, ◌≤◌, List, length}
use Rattle.counts.specs.Counts.{IsCount}

-- some digits that are no count
abbrev pub IsNoCount : List ℕ → Type 0
IsNoCount digits = (1 ≤ length digits) × ¬ (IsCount digits)
