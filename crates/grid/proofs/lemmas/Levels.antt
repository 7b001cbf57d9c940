-- Laws of lawful levels, and of the state in which a level begins.
use Rattle.std.proofs.Common.{◌≡◌, ◌≢◌, ℕ, ◌+◌, ◌*◌, ◌%◌, ◌≤◌, Bool, true, false, cond, eqb, ltb, length, get_or}
use Rattle.std.proofs.Common.{Option, Some, None, refl, sym, ◌∙◌, mul-le-mul, div-add-mod', arith}
use Rattle.std.proofs.lemmas.Bool.{eqb-true, eqb-false, ltb-false, false≢true}
use Rattle.grid.specs.declared.limits.TheConstants.{MAX_ROWS, MAX_COLS, MAX_SQUARES}
use Rattle.grid.specs.declared.fault.LevelFault.TheVariants.{TooTall, TooWide, NoPlayer, TwoPlayers, NoBox, Counts}
use Rattle.grid.specs.declared.dir.Dir.{Dir}
use Rattle.grid.specs.declared.cell.Cell.{Cell}
use Rattle.grid.specs.declared.cell.Cell.TheVariants.{Wall, Floor, Goal, Box, BoxOnGoal, Player, PlayerOnGoal}
use Rattle.grid.specs.declared.state.Step.{Step}
use Rattle.grid.specs.Squares.{places_from}
use Rattle.grid.specs.Board.{Board, Scene, is_wall, wall_cell, box_cell, player_cell, start, start_player}
use Rattle.grid.specs.States.{IsScene, Steps, FitsLevel, start_boxes}
use Rattle.grid.specs.Lawful.{IsLevel, row_count, box_count, goal_count, player_count, cell_fault}
use Rattle.grid.specs.inside.Counting.{count_fault}
use Rattle.grid.proofs.lemmas.Places.{is_rising-places_from, contains-places, contains-first, length-places_from}
use Rattle.grid.proofs.lemmas.Places.{first_place}
use Rattle.grid.proofs.lemmas.Steps.{scene_after_step, length-step}

-- ---- what a lawful level has

guard_none : {A : Type 0} (b : Bool) (x : A) (rest : Option A) → cond b (Some x) rest ≡ None
    → (b ≡ false) × (rest ≡ None)
guard_none true x rest e = absurd cc
guard_none false x rest e = (refl, e)

last_guard_none : {A : Type 0} (b : Bool) (x : A) → cond b None (Some x) ≡ None → b ≡ true
last_guard_none true x e = refl
last_guard_none false x e = absurd cc

-- what a board keeps whose cells have no fault
pub record HasCounts (board : Board) : Type 0 where
  pub rows : row_count board ≤ MAX_ROWS
  pub cols : board.cols ≤ MAX_COLS
  pub player : player_count board ≡ 1
  pub some_box : 1 ≤ box_count board
  pub boxes : box_count board ≡ goal_count board

-- cells without a fault keep the limits and have one player, some box, and as many goals as boxes
pub counts_of : (board : Board) → cell_fault board ≡ None → HasCounts board
counts_of board e =
    let tall = guard_none (ltb MAX_ROWS (row_count board)) TooTall
    (cond (ltb MAX_COLS board.cols) (Some TooWide) (count_fault board)) e in
    let wide = guard_none (ltb MAX_COLS board.cols) TooWide (count_fault board) tall.1 in
    let one = guard_none (eqb (player_count board) 0) NoPlayer
    (cond (ltb 1 (player_count board)) (Some TwoPlayers)
    (cond (eqb (box_count board) 0) (Some NoBox)
    (cond (eqb (box_count board) (goal_count board)) None (Some (Counts (box_count board) (goal_count board))))))
    wide.1 in
    let two = guard_none (ltb 1 (player_count board)) TwoPlayers
    (cond (eqb (box_count board) 0) (Some NoBox)
    (cond (eqb (box_count board) (goal_count board)) None (Some (Counts (box_count board) (goal_count board)))))
    one.1 in
    let some = guard_none (eqb (box_count board) 0) NoBox
    (cond (eqb (box_count board) (goal_count board)) None (Some (Counts (box_count board) (goal_count board)))) two.1 in
    let same = last_guard_none (eqb (box_count board) (goal_count board))
    (Counts (box_count board) (goal_count board)) some.1 in
    let there : player_count board ≢ 0 = eqb-false (player_count board) 0 one.0 in
    let few : player_count board ≤ 1 = ltb-false 1 (player_count board) two.0 in
    let box_there : box_count board ≢ 0 = eqb-false (box_count board) 0 some.0 in
    record {
      rows = ltb-false MAX_ROWS (row_count board) tall.0;
      cols = ltb-false MAX_COLS board.cols wide.0;
      player = omega (arith, there);
      some_box = omega (arith, box_there);
      boxes = eqb-true (box_count board) (goal_count board) same;
    }

-- how large a level is, and how many players, boxes and goals it has
pub level_counts : (board : Board) → IsLevel board → HasCounts board
level_counts board level = counts_of board level.lawful.cells

-- a level has no more squares than the limit
pub level_squares : (board : Board) → IsLevel board → length board.cells ≤ MAX_SQUARES
level_squares board level =
    let counts = level_counts board level in
    let product : row_count board * board.cols ≤ MAX_ROWS * MAX_COLS = mul-le-mul counts.rows counts.cols in
    let cells : row_count board * board.cols + length board.cells % board.cols ≡ length board.cells =
    div-add-mod' (length board.cells) board.cols in
    omega arith

-- ---- the start

box_no_wall : (c : Cell) → box_cell c ≡ true → wall_cell c ≡ false
box_no_wall Wall e = absurd (false≢true e)
box_no_wall Floor e = refl
box_no_wall Goal e = refl
box_no_wall Box e = refl
box_no_wall BoxOnGoal e = refl
box_no_wall Player e = refl
box_no_wall PlayerOnGoal e = refl

player_no_wall : (c : Cell) → player_cell c ≡ true → wall_cell c ≡ false
player_no_wall Wall e = absurd (false≢true e)
player_no_wall Floor e = refl
player_no_wall Goal e = refl
player_no_wall Box e = refl
player_no_wall BoxOnGoal e = refl
player_no_wall Player e = refl
player_no_wall PlayerOnGoal e = refl

player_no_box : (c : Cell) → player_cell c ≡ true → box_cell c ≡ false
player_no_box Wall e = refl
player_no_box Floor e = refl
player_no_box Goal e = refl
player_no_box Box e = absurd (false≢true e)
player_no_box BoxOnGoal e = absurd (false≢true e)
player_no_box Player e = refl
player_no_box PlayerOnGoal e = refl

-- the number of boxes at the start
pub length-start_boxes : (board : Board) → length (start_boxes board) ≡ box_count board
length-start_boxes board = length-places_from box_cell 0 board.cells

-- the cell on which the player stands at the start has the player
pub player_at_start : (board : Board) → player_count board ≡ 1
    → player_cell (get_or board.cells (start_player board) Wall) ≡ true
player_at_start board one =
    let places = places_from player_cell 0 board.cells in
    let size = length-places_from player_cell 0 board.cells in
    sym (contains-places player_cell board.cells (start_player board) Wall refl) ∙ contains-first places (omega arith)

-- a square whose cell has the player is the player's at the start
pub start_player_is : (board : Board) (q : ℕ) → player_count board ≡ 1 → player_cell (get_or board.cells q Wall) ≡ true
    → start_player board ≡ q
start_player_is board q one here = first_place player_cell board.cells q Wall refl one here

-- where there is one player the start is a state
pub start_is_scene_with : (board : Board) → player_count board ≡ 1 → IsScene board (start board)
unfolding start is_wall
start_is_scene_with board one =
    let here = player_at_start board one in
    record {
      rising = is_rising-places_from box_cell 0 board.cells;
      boxes = λ q box. box_no_wall (get_or board.cells q Wall) (sym (contains-places box_cell board.cells q Wall refl)
          ∙ box);
      player = (
        player_no_wall (get_or board.cells (start_player board) Wall) here,
        contains-places box_cell board.cells (start_player board) Wall refl ∙
            player_no_box (get_or board.cells (start_player board) Wall) here,
      );
    }

-- a level begins in a state
pub start_is_scene : (board : Board) → IsLevel board → IsScene board (start board)
start_is_scene board level = start_is_scene_with board (level_counts board level).player

-- with as many boxes as the level has
pub start_fits : (board : Board) → IsLevel board → FitsLevel board (start board)
unfolding start
start_fits board level = record { scene = start_is_scene board level; boxes = length-start_boxes board }

-- a step keeps the number of boxes that fits
pub fits_after_step : (board : Board) (s : Scene) (d : Dir) (did : Step) (t : Scene) → FitsLevel board s
    → Steps board s d did t → FitsLevel board t
fits_after_step board s d did t fits h = record {
  scene = scene_after_step board s d did t fits.scene h;
  boxes = length-step board s d did t fits.scene h ∙
      fits.boxes;
}
