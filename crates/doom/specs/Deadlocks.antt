-- Dead squares, frozen boxes and doomed sets of boxes: the simple and the freeze deadlocks of the Sokoban Wiki.
use Rattle.std.specs.Prelude.{◌≡◌, ℕ, true, false, ◌⊎◌}
use Rattle.grid.specs.declared.dir.Dir.{Dir}
use Rattle.grid.specs.Squares.{Squares, contains}
use Rattle.grid.specs.Board.{Board, Scene, is_wall, is_goal, next, opposite}

-- a lone box on the square can be pushed to some goal, the player being set down anew before each push: the square is
-- a goal, or the box can be pushed on to a live square; the square ahead and the one behind must be no walls
pub data Live (board : Board) : ℕ → Type 0 where
  home : {q : ℕ} → is_goal board q ≡ true → Live board q
  onward : {q : ℕ} (d : Dir) → is_wall board q ≡ false → is_wall board (next board q d) ≡ false →
      is_wall board (next board q (opposite d)) ≡ false →
      Live board (next board q d) → Live board q

-- every other square is dead, walls too
abbrev pub IsDead : Board → ℕ → Type 0
IsDead board q = ¬ (Live board q)

-- on the axis of d the square has beside it a wall or a member of the set, or two dead squares
abbrev pub IsHeld : Board → Squares → ℕ → Dir → Type 0
IsHeld board members q d = let a = next board q d in let b = next board q (opposite d) in
    ((is_wall board a ≡ true) ⊎ (contains members a ≡ true)) ⊎
    (((is_wall board b ≡ true) ⊎ (contains members b ≡ true)) ⊎ (IsDead board a × IsDead board b))

-- some of the boxes, at least one of them off goal, each of which is held on both axes, by walls, the others or dead
-- squares
pub record IsFrozen (board : Board) (boxes members : Squares) : Type 0 where
  pub some : (q : ℕ) → contains members q ≡ true → contains boxes q ≡ true
  pub off_goal : (q : ℕ) × (contains members q ≡ true) × (is_goal board q ≡ false)
  pub blocked : (q : ℕ) → contains members q ≡ true → (d : Dir) → IsHeld board members q d

-- a box is on a dead square, or some of the boxes are frozen
abbrev pub Doomed : Board → Squares → Type 0
Doomed board boxes =
    ((q : ℕ) × (contains boxes q ≡ true) × IsDead board q) ⊎ ((members : Squares) × IsFrozen board boxes members)

-- the boxes of the state are not doomed
abbrev pub Undoomed : Board → Scene → Type 0
Undoomed board s = ¬ (Doomed board s.boxes)
