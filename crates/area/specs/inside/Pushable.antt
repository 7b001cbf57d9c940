-- Which boxes can be pushed from a set of squares.
use Rattle.std.specs.Prelude.{◌≡◌, ℕ, true}
use Rattle.grid.specs.declared.dir.Dir.{Dir}
use Rattle.grid.specs.Board.{Board, IsFree, next, opposite}
use Rattle.grid.specs.Squares.{Squares, contains}

-- a player on the reached squares can push the box on q in the direction: a box is there, the square behind it was
-- reached, and the square ahead has neither wall nor box
pub record IsPushable (board : Board) (boxes reached : Squares) (d : Dir) (q : ℕ) : Type 0 where
  pub there : contains boxes q ≡ true
  pub behind : contains reached (next board q (opposite d)) ≡ true
  pub ahead : IsFree board boxes (next board q d)
