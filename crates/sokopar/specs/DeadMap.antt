-- The map of a level's dead squares.
use Rattle.std.specs.Prelude.{◌≡◌, ℕ, ◌<◌, true, false, ◌==◌, List, length, flat_map, slice_index}
use Rattle.grid.specs.Board.{Board, is_wall, is_goal}
use Rattle.grid.specs.Lawful.{InRoom, row_count}
use Rattle.doom.specs.Deadlocks.{IsDead}
use Rattle.xsb.specs.Boards.{cut_end}
use Rattle.xsb.specs.Written.{rows_from}
use Rattle.sokopar.specs.Report.{Report, IsReportOn, line}

-- the byte for a square: `#` for a wall, `.` for a goal, `x` for a dead square of the player's room, a space for every
-- other square; boxes and the player are not shown
pub data IsMark (board : Board) (q : ℕ) : ℕ → Type 0 where
  wall : is_wall board q ≡ true → IsMark board q 35
  goal : is_wall board q ≡ false → is_goal board q ≡ true → IsMark board q 46
  dead : is_wall board q ≡ false → is_goal board q ≡ false → InRoom board q → IsDead board q → IsMark board q 120
  other : is_wall board q ≡ false → is_goal board q ≡ false → ¬ (InRoom board q × IsDead board q) → IsMark board q 32

-- the bytes for the squares, in order
pub record AreMarks (board : Board) (marks : List ℕ) : Type 0 where
  pub count : length marks ≡ length board.cells
  pub each : (q : ℕ) → q < length board.cells → IsMark board q (slice_index marks q)

-- a row as it is written: without the spaces at its end
abbrev pub marked_row : List ℕ → List ℕ
marked_row row = line (cut_end (λ b. b == 32) row)

-- the report of the dead squares of a level: a line for each row
abbrev pub IsMapOf : Board → Report → Type 0
IsMapOf board report =
    (marks : List ℕ) × AreMarks board marks ×
    (report ≡ record { text = flat_map marked_row (rows_from (row_count board) board.cols marks); status = 0 })

-- the report of the dead squares of level n of these bytes
abbrev pub IsDeadReport : ℕ → List ℕ → Report → Type 0
IsDeadReport n bytes report = IsReportOn IsMapOf n bytes report
