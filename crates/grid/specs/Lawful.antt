-- When cells make a lawful level, and which fault is the first.
use Rattle.std.specs.Prelude.{◌≡◌, ℕ, ◌/◌, ◌%◌, ◌≤◌, false, cond, ◌==◌, nat_lt, length, count_by, Option, None, Some}
use Rattle.std.specs.Prelude.{◌⊎◌}
use Rattle.grid.specs.declared.fault.LevelFault.{LevelFault}
use Rattle.grid.specs.declared.fault.LevelFault.TheVariants.{TooTall, TooWide, NoPlayer, TwoPlayers, NoBox, Counts}
use Rattle.grid.specs.declared.fault.LevelFault.TheVariants.{Open}
use Rattle.grid.specs.declared.limits.TheConstants.{MAX_ROWS, MAX_COLS}
use Rattle.grid.specs.declared.dir.Dir.{Dir}
use Rattle.grid.specs.Board.{Board, box_cell, goal_cell, player_cell, is_wall, next, start_player}

abbrev pub row_count : Board → ℕ
row_count board = length board.cells / board.cols

abbrev pub box_count : Board → ℕ
box_count board = count_by box_cell board.cells

abbrev pub goal_count : Board → ℕ
goal_count board = count_by goal_cell board.cells

abbrev pub player_count : Board → ℕ
player_count board = count_by player_cell board.cells

-- the player's room: what four-way steps over squares that are no wall reach from the player, boxes ignored
pub data InRoom (board : Board) : ℕ → Type 0 where
  here : InRoom board (start_player board)
  beside : {q : ℕ} (d : Dir) → InRoom board q → is_wall board (next board q d) ≡ false → InRoom board (next board q d)

-- a square of the player's room lies at the grid's edge
abbrev pub IsOpen : Board → Type 0
IsOpen board = (q : ℕ) × (d : Dir) × InRoom board q × (next board q d ≡ length board.cells)

-- the first fault that looking at the cells alone finds, in the order of `LevelFault`: of the size, then of the cells
abbrev pub cell_fault : Board → Option LevelFault
cell_fault board =
    cond (nat_lt MAX_ROWS (row_count board)) (Some TooTall)
    (cond (nat_lt MAX_COLS board.cols) (Some TooWide)
    (cond (player_count board == 0) (Some NoPlayer)
    (cond (nat_lt 1 (player_count board)) (Some TwoPlayers)
    (cond (box_count board == 0) (Some NoBox)
    (cond (box_count board == goal_count board) None (Some (Counts (box_count board) (goal_count board))))))))

-- f is the first fault of the board, in the order of `LevelFault`
abbrev pub HasFault : Board → LevelFault → Type 0
HasFault board f = (cell_fault board ≡ Some f) ⊎ ((cell_fault board ≡ None) × IsOpen board × (f ≡ Open))

-- the board is a lawful level: it has none of the faults
pub record IsLawful (board : Board) : Type 0 where
  pub cells : cell_fault board ≡ None
  pub closed : ¬ (IsOpen board)

-- what is true of every level: its cells fill rows of one length, and they are lawful
pub record IsLevel (board : Board) : Type 0 where
  pub columns : 1 ≤ board.cols
  pub whole : length board.cells % board.cols ≡ 0
  pub lawful : IsLawful board
