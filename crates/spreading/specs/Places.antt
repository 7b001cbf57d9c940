-- What holds of the elements of a list, each at its place, where the first one is at a base.
use Rattle.std.specs.Prelude.{◌≡◌, ℕ, ◌+◌, ◌<◌, List, length, slice_index_or}

-- P holds of each element with its place
abbrev pub HoldsFrom : {X : Type 0} → (ℕ → X → Type 0) → ℕ → List X → Type 0
HoldsFrom P base xs = (k : ℕ) (d : _) → k < length xs → P (base + k) (slice_index_or xs k d)

-- the lists have equal length, and R holds of each place and its element before and after
pub record ChangesFrom {X : Type 0} (R : ℕ → X → X → Type 0) (base : ℕ) (xs ys : List X) : Type 0 where
  pub len : length ys ≡ length xs
  pub each : (k : ℕ) (d : X) → k < length xs → R (base + k) (slice_index_or xs k d) (slice_index_or ys k d)
