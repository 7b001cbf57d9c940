-- Where a box is held whatever other boxes there are.
use Rattle.std.specs.Prelude.{◌≡◌, ◌↔◌, ◌+◌, ◌<◌, ℕ, true, List, [], length}
use Rattle.grid.specs.declared.dir.Dir.{Dir}
use Rattle.grid.specs.declared.dir.Dir.TheVariants.{D, R}
use Rattle.grid.specs.Board.{Board, is_goal, next, opposite}
use Rattle.grid.specs.Masks.{has_bit, word_count}
use Rattle.doom.specs.declared.holds.Holds.{Holds}
use Rattle.doom.specs.Deadlocks.{IsHeld}

-- a wall, or two dead squares, hold a box on the square on the axis of d
abbrev pub IsFast : Board → ℕ → Dir → Type 0
IsFast board q d = IsHeld board [] q d

-- there are words for all squares, and their bits say where walls or dead squares alone hold a box on the axis of d
pub record AreFast (board : Board) (d : Dir) (words : List ℕ) : Type 0 where
  pub size : length words ≡ word_count (length board.cells)
  pub right : (q : ℕ) → q < length board.cells → (has_bit words q ≡ true) ↔ IsFast board q d

-- there are words for all squares, and their bits say which squares have a goal
pub record AreGoals (board : Board) (words : List ℕ) : Type 0 where
  pub size : length words ≡ word_count (length board.cells)
  pub right : (q : ℕ) → q < length board.cells → has_bit words q ≡ is_goal board q

-- the sets say where walls or dead squares alone hold a box on each axis, and which squares have a goal
pub record AreHolds (board : Board) (holds : Holds) : Type 0 where
  pub across : AreFast board R holds.across
  pub along : AreFast board D holds.along
  pub goals : AreGoals board holds.goals

-- the squares beside one on the axis of d have numbers greater and less by `by`, unless a box there is held anyway
abbrev pub IsApart : Board → Dir → ℕ → Type 0
IsApart board d by = (q : ℕ) → ¬ (IsFast board q d) → (next board q d ≡ q + by) × (next board q (opposite d) + by ≡ q)
