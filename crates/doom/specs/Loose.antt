-- Loose boxes: on some axis neither a wall, nor another box, nor two dead squares hold them. A push that makes its box
-- loose dooms nothing.
use Rattle.std.specs.Prelude.{ℕ}
use Rattle.grid.specs.declared.dir.Dir.{Dir}
use Rattle.grid.specs.Squares.{Squares, insert, remove}
use Rattle.grid.specs.Board.{Board}
use Rattle.doom.specs.Deadlocks.{IsDead, IsHeld, Doomed}

-- the square is held on both axes
abbrev pub IsHeldBothWays : Board → Squares → ℕ → Type 0
IsHeldBothWays board members q = (d : Dir) → IsHeld board members q d

-- a box on the square, among these boxes: the square is not dead, and on some axis neither a wall nor one of the
-- boxes nor two dead squares hold it
pub record IsLoose (board : Board) (boxes : Squares) (q : ℕ) : Type 0 where
  pub live : ¬ (IsDead board q)
  pub free : ¬ (IsHeldBothWays board boxes q)

-- boxes that are not doomed still are not when one of them comes to a square where it is loose
abbrev pub LooseDoomsNothing : Board → Type 0
LooseDoomsNothing board =
    (boxes : Squares) (from to : ℕ) → ¬ (Doomed board boxes) → let after = insert (remove boxes from) to in
    IsLoose board after to → ¬ (Doomed board after)
