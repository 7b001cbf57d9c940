-- What a table of distances is looked at for: that no step of the player and no push lessens a distance too much.
use Rattle.std.specs.Prelude.{◌≡◌, ◌<◌, ◌≤◌, ℕ, suc, true, false, Some, List, length, slice_get, slice_index_or}
use Rattle.grid.specs.declared.dir.Dir.{Dir}
use Rattle.grid.specs.Board.{Board, is_wall, next}
use Rattle.grid.specs.Squares.{contains}
use Rattle.prices.specs.declared.pulls.TheConstants.{NEVER}
use Rattle.prices.specs.declared.table.Side.{Side}
use Rattle.prices.specs.declared.table.DistanceTable.{DistanceTable}
use Rattle.prices.specs.Prices.{CanStand}
use Rattle.prices.specs.inside.Tables.{far_in, has_number, row_in, sides_of, spot_of}

-- where the player steps without pushing a lone box on b, it stays on the side
abbrev pub StaysIn : Board → DistanceTable → ℕ → Side → ℕ → Dir → Type 0
StaysIn board t b side p d = let q = next board p d in
    CanStand board b p → CanStand board b q
    → has_number side (spot_of t.spots.items p).number ≡ true → has_number side (spot_of t.spots.items q).number ≡ true

-- no step leads out of the side of a lone box on b
abbrev pub IsClosed : Board → DistanceTable → ℕ → Side → Type 0
IsClosed board t b side = (p : ℕ) (d : Dir) → StaysIn board t b side p d

-- no step leads out of any side of a lone box on b
abbrev pub AreClosed : Board → DistanceTable → ℕ → Type 0
AreClosed board t b =
    (i : ℕ) (side : Side) → slice_get (sides_of t.spots.items t.sides.items b) i ≡ Some side → IsClosed board t b side

-- steps that push nothing leave the distances of a lone box as they are
abbrev pub KeepRows : Board → DistanceTable → Type 0
KeepRows board t = (b p : ℕ) (d : Dir) → let q = next board p d in
    CanStand board b p → CanStand board b q → row_in t b p ≡ row_in t b q

-- a box on a goal has distance 0 to it, wherever the player is
abbrev pub AreZeroAtHome : Board → DistanceTable → Type 0
AreZeroAtHome board t = (g p : ℕ) → contains t.goals.items g ≡ true → p < length board.cells → far_in t g g p ≡ 0

-- each number is at most one greater than its partner, and the partner of one of `NEVER` or more is `NEVER` or more
pub record AreWithinOne (xs ys : List ℕ) : Type 0 where
  pub within : (i : ℕ) → slice_index_or xs i 0 ≤ suc (slice_index_or ys i 0)
  pub never : (i : ℕ) → NEVER ≤ slice_index_or xs i 0 → NEVER ≤ slice_index_or ys i 0

-- a push from the player's square lessens each distance of the box by one at most, and leaves one of `NEVER` so
abbrev pub LessensByOne : Board → DistanceTable → ℕ → Dir → Type 0
LessensByOne board t p d = let q = next board p d in let r = next board q d in
    is_wall board p ≡ false → is_wall board q ≡ false → is_wall board r ≡ false →
    AreWithinOne (row_in t q p) (row_in t r q)

-- each push lessens each distance of its box by one at most, and leaves one of `NEVER` so
abbrev pub DistancesLessenByOne : Board → DistanceTable → Type 0
DistancesLessenByOne board t = (p : ℕ) (d : Dir) → p < length board.cells → LessensByOne board t p d

-- a box that can't be brought to a goal can't be brought there after a push either
abbrev pub StayAway : Board → (ℕ → ℕ → ℕ → ℕ) → Type 0
StayAway board far = (g p : ℕ) (d : Dir) → let q = next board p d in let r = next board q d in
    CanStand board q p → CanStand board r q → NEVER ≤ far g q p → NEVER ≤ far g r q
