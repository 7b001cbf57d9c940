-- What happens to marks, and to the list of squares to look at, while an area is filled.
use Rattle.std.specs.Prelude.{◌≡◌, ◌≢◌, ℕ, ◌+◌, ◌≤◌, Bool, true, false, not, List, [], ◌∷◌, ◌++◌, length, count_by}
use Rattle.std.specs.Prelude.{slice_index_or, slice_set, ◌⊎◌}
use Rattle.grid.specs.declared.cell.Cell.{Cell}
use Rattle.grid.specs.declared.fault.LevelFault.{LevelFault}
use Rattle.grid.specs.declared.fault.LevelFault.TheVariants.{Open, OutOfMemory}
use Rattle.grid.specs.Squares.{contains}
use Rattle.grid.specs.Board.{Board, is_wall, next, start_player}
use Rattle.grid.specs.Lawful.{InRoom, IsOpen}
use Rattle.grid.specs.declared.limits.TheConstants.{MAX_COLS, MAX_SQUARES}
use Rattle.grid.specs.declared.dir.Dir.{Dir}

-- the board of these columns and cells, row by row
abbrev pub board_of : ℕ → List Cell → Board
board_of cols cells = record { cols = cols; cells = cells }

-- a grid of these columns and cells is none too large
pub record IsSized (cols : ℕ) (cells : List Cell) : Type 0 where
  pub columns : 1 ≤ cols
  pub wide : cols ≤ MAX_COLS
  pub bound : length cells ≤ MAX_SQUARES

-- why no room is found: it lies open, or memory was refused
abbrev pub IsRoomFault : Board → LevelFault → Type 0
IsRoomFault board fault = (fault ≡ OutOfMemory) ⊎ ((fault ≡ Open) × IsOpen board)

-- the square is marked
abbrev pub IsMarked : List Bool → ℕ → Type 0
IsMarked marks q = slice_index_or marks q false ≡ true

-- how many squares may be left to look round from: those that are pending, and those that have no mark
abbrev pub work : List Bool → List ℕ → ℕ
work marks pending = length pending + count_by not marks

-- the square is in the grid, and it has a mark unless it is a wall
abbrev pub IsSeen : Board → List Bool → ℕ → Type 0
IsSeen board marks q = (q ≢ length board.cells) × (is_wall board q ≡ false → IsMarked marks q)

-- a look at the square n, in marks and pending squares as they are: a wall or a marked square passes, and any other is
-- marked and made pending
pub data IsLook (board : Board) (n : ℕ) (marks : List Bool) (pending : List ℕ) : List Bool → List ℕ → Type 0 where
  passes : IsSeen board marks n → IsLook board n marks pending marks pending
  takes : is_wall board n ≡ false → slice_index_or marks n false ≡ false →
      IsLook board n marks pending (slice_set marks n true) (pending ++ n ∷ [])

-- the room half filled: the player's square is marked, all marks are in the room, and beside a marked square that is
-- not pending all squares were seen
pub record IsFilling (board : Board) (marks : List Bool) (pending : List ℕ) : Type 0 where
  pub size : length marks ≡ length board.cells
  pub start : IsMarked marks (start_player board)
  pub inside : (q : ℕ) → IsMarked marks q → InRoom board q
  pub waits : (q : ℕ) → contains pending q ≡ true → IsMarked marks q
  pub done : (q : ℕ) → IsMarked marks q →
      (contains pending q ≡ true) ⊎ ((d : Dir) → IsSeen board marks (next board q d))
