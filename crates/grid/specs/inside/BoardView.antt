-- What contracts see of a board, and what its fields keep.
use Rattle.std.specs.Prelude.{◌≡◌, ℕ, ◌↔◌, ◌≤◌, IsTrue, false, length, slice_index_or}
use Rattle.grid.specs.declared.board.Board.TheInside.{Inside}
use Rattle.grid.specs.declared.limits.TheConstants.{MAX_SQUARES}
use Rattle.grid.specs.Board.{Board, start_player}
use Rattle.grid.specs.Lawful.{IsLevel, InRoom, row_count, box_count}

-- a board is seen as its columns and cells
abbrev pub board_seen : Inside → Board
board_seen a = record { cols = a.cols; cells = a.cells.items }

-- the fields of a board agree with its cells, which are lawful
pub record IsSound (a : Inside) : Type 0 where
  pub level : IsLevel (board_seen a)
  pub bound : length a.cells.items ≤ MAX_SQUARES
  pub rows : a.rows ≡ row_count (board_seen a)
  pub boxes : a.boxes ≡ box_count (board_seen a)
  pub player : a.player ≡ start_player (board_seen a)
  pub room : (q : ℕ) → IsTrue (slice_index_or a.room.items q false) ↔ InRoom (board_seen a) q
