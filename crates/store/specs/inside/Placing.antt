-- The indices of open entries, and the targets to which a close moves them.
use Rattle.std.specs.Prelude.{◌≡◌, ℕ, suc, ◌+◌, ◌<◌, false, List, [], ◌∷◌, ◌++◌, length, slice_get, Some}
use Rattle.std.specs.Ordering.{is_gt}
use Rattle.grid.specs.declared.square.Push.{Push}
use Rattle.grid.specs.Board.{Scene, push_cmp}
use Rattle.store.specs.Entries.{Origin, OpenEntry, origin_cmp, Closed}
use Rattle.store.specs.FoundView.{seen_of}

-- the origin of an open entry, and its index
abbrev pub Row : Type 0
Row = Origin Push × ℕ

-- the rows of entries, with indices from k on
abbrev pub rows_of : ℕ → List (OpenEntry Scene Push) → List Row
rows_of k [] = []
rows_of k (w ∷ ws) = (w.1, k) ∷ rows_of (suc k) ws

-- the origins never fall along the rows
abbrev pub RowsRise : List Row → Type 0
RowsRise rows = (i j : ℕ) (x y : Row) → i < j → slice_get rows i ≡ Some x → slice_get rows j ≡ Some y →
    is_gt (origin_cmp push_cmp x.0 y.0) ≡ false

-- the rows have exactly the indices below their number
pub record HaveAllPlaces (rows : List Row) : Type 0 where
  pub inside : (i : ℕ) (r : Row) → slice_get rows i ≡ Some r → r.1 < length rows
  pub whole : (x : ℕ) → x < length rows → (i : ℕ) × (r : Row) × (slice_get rows i ≡ Some r) × (r.1 ≡ x)

-- the target of each index is the index of its row
abbrev pub AreTargets : List Row → List ℕ → Type 0
AreTargets rows targets = (length targets ≡ length rows) ×
    ((x t : ℕ) → slice_get targets x ≡ Some t → (r : Row) × (slice_get rows t ≡ Some r) × (r.1 ≡ x))

-- each target is an index of the list, and no two are the same
pub record AreApart (targets : List ℕ) : Type 0 where
  pub inside : (x t : ℕ) → slice_get targets x ≡ Some t → t < length targets
  pub apart : (x y t : ℕ) → slice_get targets x ≡ Some t → slice_get targets y ≡ Some t → x ≡ y

-- from the start on, the entry at each index is the one at its target in another list
abbrev pub AreAtTargets : ℕ → List Closed → List ℕ → List Closed → Type 0
AreAtTargets start entries targets others =
    (length others ≡ length targets) ×
    ((x t : ℕ) → slice_get targets x ≡ Some t → slice_get entries (start + x) ≡ slice_get others t)

-- the entries from the start on were moved to their targets
abbrev pub AreBrought : ℕ → List Closed → List ℕ → List Closed → Type 0
AreBrought start before targets after =
    (others : List Closed) → AreAtTargets start before targets others → after ≡ seen_of start before ++ others
