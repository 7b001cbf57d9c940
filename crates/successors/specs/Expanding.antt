-- What contracts see of an expander.
use Rattle.std.specs.Prelude.{◌≡◌, List}
use Rattle.grid.specs.declared.square.Push.{Push}
use Rattle.grid.specs.Squares.{Squares}
use Rattle.grid.specs.Board.{Scene}
use Rattle.grid.specs.States.{FitsLevel}
use Rattle.area.specs.After.{IsAreaOf}
use Rattle.area.specs.Pushes.{ArePushes}
use Rattle.successors.specs.Problems.{Problem}

-- an expander: the level with its cap, the squares that its last flood reached and those of the boxes round which it
-- went, and pushes
pub record ExpanderView : Type 0 where
  pub problem : Problem
  pub reached : Squares
  pub boxes : Squares
  pub pushes : List Push

-- the last flood was that of a position that may be played on the level, and the pushes are those that it allows
pub record HasPushesOf (e : ExpanderView) (n : Scene) : Type 0 where
  pub fits : FitsLevel e.problem.board n
  pub flooded : IsAreaOf e.problem.board n e.reached
  pub boxes : e.boxes ≡ n.boxes
  pub pushes : ArePushes e.problem.board n e.pushes
