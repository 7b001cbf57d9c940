-- The indices of offered positions among the entries of a map, as they were looked up.
use Rattle.std.specs.Prelude.{◌≡◌, ◌≢◌, ℕ, ◌≤◌, List, length, slice_get, slice_index_or, Some}
use Rattle.std.specs.Map.{keys_of}
use Rattle.grid.specs.declared.square.Push.{Push}
use Rattle.grid.specs.Board.{Scene}
use Rattle.store.specs.declared.batches.TheConstants.{NOWHERE}
use Rattle.store.specs.Entries.{Closed, OpenEntry}

-- the position is that of the entry at the index
abbrev pub HasKeyAt : List Closed → ℕ → Scene → Type 0
HasKeyAt es place m = slice_get (keys_of es) place ≡ Some m

-- the index is that of the position's entry, or NOWHERE
abbrev pub IsIndexOf : List Closed → ℕ → Scene → Type 0
IsIndexOf es place m = place ≢ NOWHERE → HasKeyAt es place m

-- there is an index for each offer: that of its position, or NOWHERE
pub record AreIndicesOf (es : List Closed) (offers : List (OpenEntry Scene Push)) (places : List ℕ) : Type 0 where
  pub many : length offers ≤ length places
  pub each : (i : ℕ) (o : OpenEntry Scene Push) → slice_get offers i ≡ Some o →
      IsIndexOf es (slice_index_or places i 0) o.0
