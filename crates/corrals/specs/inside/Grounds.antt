-- What contracts see of where a corral is looked for.
use Rattle.std.specs.Prelude.{◌≡◌, ℕ, Option}
use Rattle.grid.specs.Board.{Board, Scene}
use Rattle.grid.specs.States.{FitsLevel}
use Rattle.area.specs.After.{IsAreaOf}
use Rattle.corrals.specs.declared.ground.Ground.TheInside.{Inside}

-- a level, a position of it, and how many pushes at most may follow the next one: any number, where there is no cap
pub record GroundView : Type 0 where
  pub board : Board
  pub scene : Scene
  pub left : Option ℕ

abbrev pub ground_view : Inside → GroundView
ground_view a = record { board = a.level.now; scene = a.position.now; left = a.slack.now.left }

-- the position is one of the level; the dead squares are the level's, and the last flood and the slack are those of the
-- position
pub record IsFlooded (a : Inside) : Type 0 where
  pub fits : FitsLevel a.level.now a.position.now
  pub dead_of_level : a.dead.now ≡ a.level.now
  pub flooded : IsAreaOf a.level.now a.position.now a.scratch.now.reached
  pub boxes : a.scratch.now.boxes ≡ a.position.now.boxes
  pub slack : (a.slack.now.board ≡ a.level.now) × (a.slack.now.scene ≡ a.position.now)
