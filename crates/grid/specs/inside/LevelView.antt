-- What contracts see of a level, and what its tables keep.
use Rattle.std.specs.Prelude.{◌≡◌, length}
use Rattle.grid.specs.declared.level.Level.TheInside.{Inside}
use Rattle.grid.specs.Board.{Board}
use Rattle.grid.specs.RoomMask.{IsRoomMask}
use Rattle.grid.specs.inside.AroundView.{AreAround}

-- a level is seen as its board
abbrev pub level_seen : Inside → Board
level_seen a = a.board

-- the tables of a level are those of its board
pub record HasTables (a : Inside) : Type 0 where
  pub places : length a.around.items ≡ length a.board.cells
  pub around : AreAround a.board a.around.items
  pub room : IsRoomMask a.board a.room.items
