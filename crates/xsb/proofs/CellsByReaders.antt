-- Writing: the cells of a level by its readers, and rows without floor at their ends.
use Rattle.std.proofs.Common.{◌≡◌, ℕ, suc, ◌+◌, ◌-◌, ◌*◌, ◌<◌, ◌≤◌, Bool, true, false, ◌==◌, List, [], ◌∷◌, ◌++◌}
use Rattle.std.proofs.Common.{length, get_or, take, drop, flat_map, refl, sym, ap, ◌∙◌, arith, get_or-drop, length-drop}
use Rattle.std.proofs.Common.{div-add-mod'}
use Rattle.std.proofs.lemmas.Bool.{false≢true, eq-eqb, ne_eqb}
use Rattle.std.proofs.lemmas.List.{take_more, length-take-le, take-take, drop-drop}
use Rattle.xsb.proofs.GapsAndBoards.{drop-zero}
use Rattle.grid.specs.declared.cell.Cell.{Cell}
use Rattle.grid.specs.declared.cell.Cell.TheVariants.{Wall, Floor, Goal, Box, BoxOnGoal, Player, PlayerOnGoal}
use Rattle.grid.specs.Board.{Board, wall_cell, box_cell, goal_cell, player_cell, is_wall, is_goal, start_player}
use Rattle.grid.specs.States.{has_box}
use Rattle.grid.specs.Lawful.{IsLevel, row_count, player_count}
use Rattle.grid.proofs.lemmas.Levels.{counts_of, player_at_start, start_player_is}
use Rattle.xsb.specs.Boards.{before_rest, cut_end, cut_row, is_floor}
use Rattle.xsb.specs.Rereading.{cell_with}
use Rattle.xsb.specs.Written.{written, rows_from}
use Rattle.xsb.specs.inside.Bytes.{written_row}
use Rattle.xsb.proofs.CutEnds.{cut_end-last_blank, cut_end-last_other}

cell_with-cell : (c : Cell) → cell_with (wall_cell c) (box_cell c) (player_cell c) (goal_cell c) ≡ c
cell_with-cell Wall = refl
cell_with-cell Floor = refl
cell_with-cell Goal = refl
cell_with-cell Box = refl
cell_with-cell BoxOnGoal = refl
cell_with-cell Player = refl
cell_with-cell PlayerOnGoal = refl

player-test : (board : Board) (q : ℕ) (t : Bool) → player_count board ≡ 1 → player_cell (get_or board.cells q Wall) ≡ t
    → (start_player board == q) ≡ t
player-test board q true one here = eq-eqb (start_player board) q (start_player_is board q one here)
player-test board q false one here =
    ne_eqb (start_player board) q (λ e. false≢true (sym here ∙ ap (λ p. player_cell (get_or board.cells p Wall)) (sym e)
    ∙
    player_at_start board one))

-- the readers of a level tell its cell
pub cell_with-level : (board : Board) (q : ℕ) (w b p g : Bool) → IsLevel board → w ≡ is_wall board q
    → b ≡ has_box board q → p ≡ (start_player board == q)
    → g ≡ is_goal board q → cell_with w b p g ≡ get_or board.cells q Wall
unfolding is_wall has_box is_goal
cell_with-level board q w b p g level wall boxed player goal =
    let one = (counts_of board level.lawful.cells).player in
    let c = get_or board.cells q Wall in
    ap (λ t. cell_with t b p g) wall ∙ ap (λ t. cell_with (wall_cell c) t p g) boxed ∙
    ap (λ t. cell_with (wall_cell c) (box_cell c) t g) (player ∙ player-test board q (player_cell c) one refl)
    ∙ ap (λ t. cell_with (wall_cell c) (box_cell c) (player_cell c) t) goal ∙ cell_with-cell c

-- one cell more of a row
pub row-more : (cells : List Cell) (start col : ℕ) → start + col < length cells →
    take (col + 1) (drop start cells) ≡ take col (drop start cells) ++ get_or cells (start + col) Wall ∷ []
row-more cells start col inside =
    let left = length-drop start cells in
    take_more (drop start cells) col Wall (omega arith) ∙ ap (λ c. take col (drop start cells) ++ c ∷ [])
    (get_or-drop start cells col Wall)

pub kept-floor : (cells : List Cell) (start col kept : ℕ) → start + col < length cells
    → kept ≡ length (cut_row (take col (drop start cells)))
    → is_floor (get_or cells (start + col) Wall) ≡ true → kept ≡ length (cut_row (take (col + 1) (drop start cells)))
kept-floor cells start col kept inside e floor = e ∙
    ap length (cut_end-last_blank is_floor (take (col + 1) (drop start cells)) (take col (drop start cells))
    (get_or cells (start + col) Wall)
    (row-more cells start col inside) floor)

pub kept-other : (cells : List Cell) (start col : ℕ) → start + col < length cells
    → is_floor (get_or cells (start + col) Wall) ≡ false
    → col + 1 ≡ length (cut_row (take (col + 1) (drop start cells)))
kept-other cells start col inside other =
    let left = length-drop start cells in
    let long = length-take-le (col + 1) (drop start cells) (omega arith) in
    sym (ap length (cut_end-last_other is_floor (take (col + 1) (drop start cells)) (take col (drop start cells))
    (get_or cells (start + col) Wall)
    (row-more cells start col inside) other) ∙ long)

-- `before_rest` gives the first elements of x ∷ xs
take-before : {A : Type 0} (t : Bool) (x : A) (ys xs : List A) → take (length ys) xs ≡ ys
    → take (length (before_rest t x ys)) (x ∷ xs) ≡ before_rest t x ys
take-before true x [] xs e = refl
take-before true x (y ∷ ys) xs e = ap (λ l. x ∷ l) e
take-before false x ys xs e = ap (λ l. x ∷ l) e

pub take-cut_end : {A : Type 0} (test : A → Bool) (xs : List A) → take (length (cut_end test xs)) xs ≡ cut_end test xs
take-cut_end test [] = refl
take-cut_end test (x ∷ xs) = take-before (test x) x (cut_end test xs) xs (take-cut_end test xs)

pub kept-cells : (cells : List Cell) (start cols kept : ℕ) → kept ≡ length (cut_row (take cols (drop start cells)))
    → kept ≤ cols
    → take kept (drop start cells) ≡ cut_row (take cols (drop start cells))
kept-cells cells start cols kept e le =
    sym (take-take kept cols (drop start cells) le) ∙ ap (λ k. take k (take cols (drop start cells))) e
    ∙ take-cut_end is_floor (take cols (drop start cells))

-- the rows of a level
pub rows-whole : (board : Board) → IsLevel board → row_count board * board.cols ≡ length board.cells
rows-whole board level = let a = level.whole in let b = level.columns in
    let c = div-add-mod' (length board.cells) board.cols in omega arith

-- what is still to be written from a row on
abbrev pub left_from : Board → ℕ → List ℕ
left_from board row = flat_map written_row
    (rows_from (row_count board - row) board.cols (drop (row * board.cols) board.cells))

pub left-none : (board : Board) → left_from board 0 ≡ written board
unfolding written
left-none board =
    let a : row_count board - 0 ≡ row_count board = omega arith in let b : 0 * board.cols ≡ 0 = omega arith in
    ap (λ n. flat_map written_row (rows_from n board.cols (drop (0 * board.cols) board.cells))) a ∙
    ap (λ n. flat_map written_row (rows_from (row_count board) board.cols (drop n board.cells))) b
    ∙ ap (λ cs. flat_map written_row (rows_from (row_count board) board.cols cs)) (drop-zero board.cells)

pub left-more : (board : Board) (row : ℕ) → row < row_count board →
    left_from board row ≡ written_row (take board.cols
    (drop (row * board.cols) board.cells)) ++ left_from board (row + 1)
left-more board row less =
    let a : row_count board - row ≡ suc (row_count board - (row + 1)) = omega arith in
    let b : row * board.cols + board.cols ≡ (row + 1) * board.cols = omega arith in
    ap (λ n. flat_map written_row (rows_from n board.cols (drop (row * board.cols) board.cells))) a
    ∙ ap (λ cs. written_row (take board.cols (drop (row * board.cols) board.cells)) ++
    flat_map written_row (rows_from (row_count board - (row + 1)) board.cols cs))
    (drop-drop board.cols (row * board.cols) board.cells)
    ∙ ap (λ k. written_row (take board.cols (drop (row * board.cols) board.cells)) ++
    flat_map written_row (rows_from (row_count board - (row + 1)) board.cols (drop k board.cells))) b
