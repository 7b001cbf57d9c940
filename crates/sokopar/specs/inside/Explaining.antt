-- The parts of what `explain` writes that functions of their own find.
use Rattle.std.specs.Prelude.{◌≡◌, ◌≢◌, ◌==◌, ℕ, ◌/◌, ◌%◌, ◌≤◌, Bool, true, false, cond, nat_lt}
use Rattle.std.specs.Prelude.{List, [], ◌∷◌, ◌++◌, codes, decimal, length, drop, Option, IfSome, MatchOption}
use Rattle.grid.specs.declared.cell.Cell.{Cell}
use Rattle.grid.specs.declared.fault.LevelFault.{LevelFault}
use Rattle.grid.specs.declared.fault.LevelFault.TheVariants.{NoPlayer, TwoPlayers, NoBox, Counts, Open}
use Rattle.grid.specs.declared.limits.TheConstants.{MAX_ROWS, MAX_COLS}
use Rattle.grid.specs.Board.{Board, box_cell, goal_cell, player_cell}
use Rattle.grid.specs.Lawful.{IsOpen, player_count, row_count}
use Rattle.grid.specs.inside.Filling.{IsFilling, work}
use Rattle.grid.specs.Squares.{Squares, contains}
use Rattle.doom.specs.Deadlocks.{IsFrozen}
use Rattle.xsb.specs.Breaks.{IsBroken}
use Rattle.xsb.specs.declared.breaks.BrokenRow.{BrokenRow}
use Rattle.xsb.specs.declared.breaks.BrokenRows.{BrokenRows}
use Rattle.xsb.specs.declared.places.BoardRows.{BoardRows}
use Rattle.xsb.specs.declared.places.RowPlace.{RowPlace}
use Rattle.xsb.specs.inside.Breaking.{IsPastLine}
use Rattle.sokopar.specs.Explaining.{AlsoTold, AreIn, IsExit, endangered}
use Rattle.sokopar.specs.declared.remark.Plight.{Plight}
use Rattle.sokopar.specs.declared.remark.Plight.TheVariants.{Unreached, Unfilled, OnDead}
use Rattle.sokopar.specs.Report.{line}
use Rattle.std.specs.Fmt.{digit_glyph}
use Rattle.sokopar.specs.declared.faulty.Kind.{Kind}
use Rattle.sokopar.specs.declared.faulty.Kind.TheVariants.{Player, Box, Goal}

-- the cell has something of a kind on it
abbrev pub is_kind : Kind → Cell → Bool
is_kind Player = player_cell
is_kind Box = box_cell
is_kind Goal = goal_cell

-- the board that was read
abbrev pub board_in : BoardRows → Board
board_in rows = record { cols = rows.cols; cells = rows.cells.items }

-- the board has columns, is none too large, and has no more cells than the numbers of squares allow
pub record AreBounded (rows : BoardRows) : Type 0 where
  pub columns : 1 ≤ rows.cols
  pub wide : rows.cols ≤ MAX_COLS
  pub tall : row_count (board_in rows) ≤ MAX_ROWS
  pub bound : length rows.cells.items ≤ 65535

-- the numbers of boxes and goals are at fault
abbrev pub is_unequal : LevelFault → Bool
is_unequal NoBox = true
is_unequal (Counts boxes goals) = true
is_unequal fault = false

-- the player gets out
abbrev pub is_open : LevelFault → Bool
is_open Open = true
is_open fault = false

-- the number of players is at fault
abbrev pub is_of_players : LevelFault → Bool
is_of_players NoPlayer = true
is_of_players TwoPlayers = true
is_of_players fault = false

-- what is wrong with these numbers of boxes and goals
abbrev pub unequal_faults : ℕ → ℕ → List LevelFault
unequal_faults boxes goals = cond (boxes == 0) (NoBox ∷ []) (cond (boxes == goals) [] (Counts boxes goals ∷ []))

-- the grid ends beside a square to which steps lead from the player; none if there is no such square
abbrev pub IsExitOrNone : Board → Option ℕ → Type 0
IsExitOrNone board exit = MatchOption exit (¬ (IsOpen board)) (IsExit board)

-- the square is where the player gets out of a board; none if there is no player, or it does not get out
abbrev pub IsWayOut : Board → Option ℕ → Type 0
IsWayOut board exit = MatchOption exit (¬ ((player_count board ≢ 0) × IsOpen board))
    (λ q. (player_count board ≢ 0) × IsExit board q)

-- text on these faults is added
abbrev pub AddsFaults : Board → List RowPlace → List LevelFault → List ℕ → List ℕ → Type 0
AddsFaults board places faults old new = (text : List ℕ) × AlsoTold board places faults text × (new ≡ old ++ text)

-- after a look round from one square the pending squares from place `from` on are still to be looked round from, and no
-- more of them and of unmarked squares are left
pub record HasTurned (board : Board) (from : ℕ) (marks : List Bool) (pending : Squares) (new : List Bool)
    (later : Squares) : Type 0 where
  pub filling : IsFilling board new (drop from later)
  pub less : work new (drop from later) ≤ work marks (drop from pending)

-- each square of the one set is in the other
abbrev pub AreAmong : Squares → Squares → Type 0
AreAmong few more = (q : ℕ) → contains few q ≡ true → contains more q ≡ true

-- some of the boxes, among which some are frozen
pub record AreFrozen (board : Board) (boxes few : Squares) : Type 0 where
  pub among : AreAmong few boxes
  pub frozen : (members : Squares) × IsFrozen board few members

-- the broken rows that are left, and the first of them
pub record HaveBroken (bytes : List ℕ) (rows : BrokenRows) (next : Option BrokenRow) : Type 0 where
  pub rest : IsPastLine bytes rows
  pub first : IfSome next (IsBroken bytes)

-- no square is in any plight
abbrev pub AreSafe : Board → Type 0
AreSafe board = (plight : Plight) → AreIn board plight (endangered board plight) []

-- some squares are in this plight, all of those that are
abbrev pub IsLostBy : Board → Plight → Squares → Type 0
IsLostBy board plight squares = AreIn board plight (endangered board plight) squares × (squares ≢ [])

-- why the box or the goal on a square makes a level unsolvable
abbrev pub plight_words : Plight → List ℕ
plight_words Unreached = codes "unsolvable: the player never gets to the box"
plight_words Unfilled = codes "unsolvable: no box gets to the goal"
plight_words OnDead = codes "unsolvable: a box is on a dead square"

-- the code of a character in hexadecimal digits, four to six
abbrev pub code_digits : ℕ → List ℕ
code_digits c = cond (nat_lt 0xFFFFF c) (digit_glyph true (c / 0x100000 % 16) ∷ []) [] ++
    cond (nat_lt 0xFFFF c) (digit_glyph true (c / 0x10000 % 16) ∷ []) [] ++
    digit_glyph true (c / 0x1000 % 16) ∷ digit_glyph true (c / 0x100 % 16) ∷ digit_glyph true (c / 0x10 % 16) ∷
    digit_glyph true (c % 16) ∷ []

-- how many of the levels are found unsolvable, if any
abbrev pub unsolvable_words : ℕ → List ℕ
unsolvable_words lost = cond (lost == 0) [] (codes ", " ++ decimal lost ++ codes " of them unsolvable")

-- the line of a row of other characters
abbrev pub foreign_line : ℕ → List ℕ
foreign_line n = line (codes "line " ++ decimal n ++ codes " looks like a board of other characters")
