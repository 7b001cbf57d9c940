-- The places of positions among the entries of a search.
use Rattle.std.specs.Prelude.{◌≡◌, ℕ, List, slice_get, Option, Some, None}
use Rattle.grid.specs.Board.{Scene}
use Rattle.store.specs.Visited.{Node, IsNew}

-- the place of the entry with the position, or none where no entry has it
abbrev pub IsPlaceOf : List Node → Scene → Option ℕ → Type 0
IsPlaceOf all m (Some place) = (x : Node) × (slice_get all place ≡ Some x) × (x.position ≡ m)
IsPlaceOf all m None = IsNew all m
