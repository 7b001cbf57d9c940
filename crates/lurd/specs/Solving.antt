-- Letters that write a solution.
use Rattle.std.specs.Prelude.{◌≡◌, ℕ, List, length}
use Rattle.grid.specs.declared.square.Push.{Push}
use Rattle.grid.specs.declared.moves.Letter.{Letter}
use Rattle.grid.specs.Board.{Board}
use Rattle.grid.specs.Plays.{IsSolution, dirs_of}

-- the letters write a solution with these numbers of pushes and moves
pub record WritesSolution (board : Board) (letters : List Letter) (pushes moves : ℕ) : Type 0 where
  pub list : List Push
  pub solution : IsSolution board (dirs_of letters) list
  pub pushes_are : length list ≡ pushes
  pub moves_are : length letters ≡ moves
