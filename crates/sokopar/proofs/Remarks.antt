-- What is found against faulty boards.
use Rattle.std.proofs.Common.{◌≡◌, ◌≢◌, ℕ, ◌≤◌, Bool, true, false, cond, ◌==◌, nat_lt, Option, Some, None, Vec, Global, ◌⊎◌, inl, inr, subst, refl, arith}
use Rattle.std.proofs.Common.{Result, Ok, Err, IfOk, get_or, slice_get, sym, ◌∙◌}
use Rattle.std.proofs.lemmas.Bool.{false≢true, true≢false}
use Rattle.std.proofs.lemmas.Bool.Decides.{nat_tests}
use Rattle.std.proofs.lemmas.Option.{get_or_from_slice_get, slice_get_within}
use Rattle.grid.specs.declared.cell.Cell.{Cell}
use Rattle.grid.specs.declared.cell.Cell.TheVariants.{Wall, Floor, Goal, Box, BoxOnGoal, Player, PlayerOnGoal}
use Rattle.grid.specs.declared.fault.LevelFault.{LevelFault}
use Rattle.grid.specs.declared.fault.LevelFault.TheVariants.{TooTall, TooWide, NoPlayer, TwoPlayers, NoBox, Counts, Open, OutOfMemory}
use Rattle.grid.specs.declared.limits.TheConstants.{MAX_ROWS, MAX_COLS}
use Rattle.grid.specs.Board.{Board, box_cell, goal_cell, is_wall, player_cell, start_player, wall_cell}
use Rattle.grid.specs.Lawful.{HasFault, IsOpen, box_count, cell_fault, goal_count, player_count, row_count}
use Rattle.grid.specs.Squares.{places_from}
use Rattle.grid.specs.inside.Counting.{count_fault}
use Rattle.grid.proofs.lemmas.Levels.{counts_of}
use Rattle.grid.proofs.lemmas.Places.{contains-first, contains-places, length-places_from}
use Rattle.sokopar.specs.Explaining.{IsRemarkOnFault}
use Rattle.sokopar.specs.declared.remark.Remark.TheVariants.{Players, Unequal}
use Rattle.sokopar.specs.inside.Explaining.{IsExitOrNone, IsWayOut, is_open, is_unequal}
use Rattle.sokopar.proofs.Exiting.{none_past}

-- a fault that the numbers of players, boxes and goals show
abbrev is_counted : LevelFault → Bool
is_counted NoPlayer = true
is_counted TwoPlayers = true
is_counted NoBox = true
is_counted (Counts boxes goals) = true
is_counted fault = false

abbrev is_none_or_counted : Option LevelFault → Bool
is_none_or_counted None = true
is_none_or_counted (Some fault) = is_counted fault

counted : (a b c d : Bool) (boxes goals : ℕ) →
    is_none_or_counted (cond a (Some NoPlayer) (cond b (Some TwoPlayers) (cond c (Some NoBox) (cond d None (Some (Counts boxes goals)))))) ≡ true
counted true b c d boxes goals = refl
counted false true c d boxes goals = refl
counted false false true d boxes goals = refl
counted false false false true boxes goals = refl
counted false false false false boxes goals = refl

counted_fault : (board : Board) (fault : LevelFault) → count_fault board ≡ Some fault → is_counted fault ≡ true
counted_fault board fault is = subst (λ o. is_none_or_counted o ≡ true) is
    (counted (player_count board == 0) (nat_lt 1 (player_count board)) (box_count board == 0) (box_count board == goal_count board)
    (box_count board) (goal_count board))

within : (a b : Bool) (rest : Option LevelFault) (fault : LevelFault) → a ≡ false → b ≡ false →
    cond a (Some TooTall) (cond b (Some TooWide) rest) ≡ Some fault → rest ≡ Some fault
within true b rest fault short narrow is = absurd (true≢false short)
within false true rest fault short narrow is = absurd (true≢false narrow)
within false false rest fault short narrow is = is

-- the fault of a board that is none too large
pub small_fault : (board : Board) (fault : LevelFault) → row_count board ≤ MAX_ROWS → board.cols ≤ MAX_COLS → HasFault board fault →
    (count_fault board ≡ Some fault) ⊎ ((cell_fault board ≡ None) × IsOpen board × (fault ≡ Open))
small_fault board fault short narrow (inl is) =
    let tall : nat_lt MAX_ROWS (row_count board) ≡ false = grind (arith, nat_tests) in
    let wide : nat_lt MAX_COLS board.cols ≡ false = grind (arith, nat_tests) in
    inl (within (nat_lt MAX_ROWS (row_count board)) (nat_lt MAX_COLS board.cols) (count_fault board) fault tall wide is)
small_fault board fault short narrow (inr gap) = inr gap

-- its remark
pub fault_unequal : (fault : LevelFault) (board : Board) (boxes goals : Vec ℕ Global) → is_unequal fault ≡ true →
    boxes.items ≡ places_from box_cell 0 board.cells → goals.items ≡ places_from goal_cell 0 board.cells →
    IsRemarkOnFault fault board (Unequal boxes goals)
fault_unequal TooTall board boxes goals is e f = absurd (false≢true is)
fault_unequal TooWide board boxes goals is e f = absurd (false≢true is)
fault_unequal NoPlayer board boxes goals is e f = absurd (false≢true is)
fault_unequal TwoPlayers board boxes goals is e f = absurd (false≢true is)
fault_unequal NoBox board boxes goals is e f = (e, f)
fault_unequal (Counts m n) board boxes goals is e f = (e, f)
fault_unequal Open board boxes goals is e f = absurd (false≢true is)
fault_unequal OutOfMemory board boxes goals is e f = absurd (false≢true is)

pub fault_players : (fault : LevelFault) (board : Board) (players : Vec ℕ Global) → is_counted fault ≡ true → is_unequal fault ≡ false →
    players.items ≡ places_from player_cell 0 board.cells → IsRemarkOnFault fault board (Players players)
fault_players TooTall board players is other e = absurd (false≢true is)
fault_players TooWide board players is other e = absurd (false≢true is)
fault_players NoPlayer board players is other e = e
fault_players TwoPlayers board players is other e = e
fault_players NoBox board players is other e = absurd (true≢false other)
fault_players (Counts m n) board players is other e = absurd (true≢false other)
fault_players Open board players is other e = absurd (false≢true is)
fault_players OutOfMemory board players is other e = absurd (false≢true is)

-- an open board
pub open_fault : (fault : LevelFault) → is_open fault ≡ true → fault ≡ Open
open_fault TooTall is = absurd (false≢true is)
open_fault TooWide is = absurd (false≢true is)
open_fault NoPlayer is = absurd (false≢true is)
open_fault TwoPlayers is = absurd (false≢true is)
open_fault NoBox is = absurd (false≢true is)
open_fault (Counts m n) is = absurd (false≢true is)
open_fault Open is = refl
open_fault OutOfMemory is = absurd (false≢true is)

pub open_way : (board : Board) (fault : LevelFault) → row_count board ≤ MAX_ROWS → board.cols ≤ MAX_COLS → HasFault board fault →
    is_open fault ≡ true → (player_count board ≢ 0) × IsOpen board
open_way board fault short narrow has is = elim (small_fault board fault short narrow has) [
  | inl same ↦ absurd (false≢true
      (subst (λ (f : LevelFault). is_counted f ≡ true) (open_fault fault is) (counted_fault board fault same)))
  | inr gap ↦ let one = (counts_of board gap.0).player in (λ none. omega (arith, none, one), gap.1)
]

pub closed_counted : (board : Board) (fault : LevelFault) → row_count board ≤ MAX_ROWS → board.cols ≤ MAX_COLS → HasFault board fault →
    is_open fault ≡ false → is_counted fault ≡ true
closed_counted board fault short narrow has is = elim (small_fault board fault short narrow has) [
  | inl same ↦ counted_fault board fault same
  | inr gap ↦ absurd (true≢false (subst (λ (f : LevelFault). is_open f ≡ false) gap.2 is))
]

-- ---- the player of a board, of several the first

player_no_wall : (c : Cell) → player_cell c ≡ true → wall_cell c ≡ false
player_no_wall Wall here = absurd (false≢true here)
player_no_wall Floor here = absurd (false≢true here)
player_no_wall Goal here = absurd (false≢true here)
player_no_wall Box here = absurd (false≢true here)
player_no_wall BoxOnGoal here = absurd (false≢true here)
player_no_wall Player here = refl
player_no_wall PlayerOnGoal here = refl

module _ (board : Board) (player : ℕ) (first : slice_get (places_from player_cell 0 board.cells) 0 ≡ Some player) where
  pub some_player : player_count board ≢ 0
  some_player none =
      let below = slice_get_within (places_from player_cell 0 board.cells) 0 player first in
      let size = length-places_from player_cell 0 board.cells in
      omega (arith, below, size, none)

  pub first_player : player ≡ start_player board
  first_player = sym (get_or_from_slice_get (places_from player_cell 0 board.cells) 0 player 0 first)

  -- it is on no wall
  pub player_on_floor : is_wall board player ≡ false
  unfolding is_wall
  player_on_floor =
      let players = places_from player_cell 0 board.cells in
      let below = slice_get_within players 0 player first in
      let here = contains-places player_cell board.cells (start_player board) Wall refl in
      subst (λ q. wall_cell (get_or board.cells q Wall) ≡ false) (sym first_player)
      (player_no_wall (get_or board.cells (start_player board) Wall) (sym here ∙ contains-first players (omega (arith, below))))

-- where it gets out, if anywhere
pub way_out : {E : Type 0} (result : Result (Option ℕ) E) (board : Board) → player_count board ≢ 0 →
    IfOk result (IsExitOrNone board) → IfOk result (IsWayOut board)
way_out (Err e) board some found = tt
way_out (Ok None) board some closed = λ way. closed way.1
way_out (Ok (Some q)) board some exit = (some, exit)

-- without a player it gets out nowhere
pub no_way_out : (board : Board) → slice_get (places_from player_cell 0 board.cells) 0 ≡ None → IsWayOut board None
no_way_out board none = λ way. way.0 (
    let few = none_past (places_from player_cell 0 board.cells) 0 none in
    let size = length-places_from player_cell 0 board.cells in
    omega (arith, few, size))
