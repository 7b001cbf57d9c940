-- The board of some rows, and how it is judged.
use Rattle.std.proofs.Common.{◌≡◌, ℕ, ◌-◌, ◌*◌, ◌/◌, ◌%◌, ◌<◌, ◌≤◌, Bool, true, false, cond, nat_lt, List, [], ◌∷◌, length, replicate, flat_map, Some}
use Rattle.std.proofs.Common.{sym, ap, ◌∙◌, arith, length-append, subst, inl, ⊎_elim, ◌≢◌, MatchBool}
use Rattle.std.proofs.lemmas.Bool.{false≢true}
use Rattle.std.proofs.Math.Nat.{mul-div_cancel, mul-mod_left}
use Rattle.std.proofs.lemmas.List.{length-replicate}
use Rattle.std.proofs.lemmas.Bool.Decides.{nat_tests}
use Rattle.grid.specs.declared.cell.Cell.{Cell}
use Rattle.grid.specs.declared.cell.Cell.TheVariants.{Floor}
use Rattle.grid.specs.declared.fault.LevelFault.{LevelFault}
use Rattle.grid.specs.declared.fault.LevelFault.TheVariants.{TooTall, TooWide, OutOfMemory}
use Rattle.grid.specs.declared.limits.TheConstants.{MAX_ROWS, MAX_COLS}
use Rattle.grid.specs.Board.{Board}
use Rattle.grid.specs.Lawful.{HasFault, cell_fault, row_count}
use Rattle.grid.specs.Refusals.{IsRefusal}
use Rattle.grid.specs.inside.Counting.{count_fault}
use Rattle.xsb.specs.declared.boards.Stretch.{Stretch}
use Rattle.xsb.specs.Boards.{board_of, cols_of, cut_row, padded}
use Rattle.xsb.specs.inside.Stretches.{HasRows}
use Rattle.xsb.proofs.Walls.{cols_of-wall, wall-lines}

-- a padded row is as long as the board has columns
pub length-padded : (cols : ℕ) (row : List Cell) → length (cut_row row) ≤ cols → length (padded cols row) ≡ cols
length-padded cols row short =
    let both = length-append (cut_row row) (replicate (cols - length (cut_row row)) Floor) in
    let floor = length-replicate (cols - length (cut_row row)) Floor in
    omega arith

-- all rows of a board are as long as it has columns
pub length-padded_rows : (cols : ℕ) (rows : List (List Cell)) → cols_of rows ≤ cols → length (flat_map (padded cols) rows) ≡ length rows * cols
length-padded_rows cols [] wide = omega arith
length-padded_rows cols (row ∷ rows) wide =
    let rest = length-padded_rows cols rows (omega arith) in
    let both = length-append (padded cols row) (flat_map (padded cols) rows) in
    let one = length-padded cols row (omega arith) in
    omega arith

pub row_count-board_of : (rows : List (List Cell)) → 1 ≤ cols_of rows → row_count (board_of rows) ≡ length rows
unfolding board_of
row_count-board_of rows some = ap (λ n. n / cols_of rows) (length-padded_rows (cols_of rows) rows (omega arith)) ∙ mul-div_cancel (length rows) (omega arith)

-- the rows of a stretch have a column
pub HasRows-cols : {stretch : Stretch} {rows : List (List Cell)} → HasRows stretch rows → 1 ≤ cols_of rows
HasRows-cols {stretch} {rows} has =
    let n = has.count in let some = has.some in let same = ap cols_of has.rows_are.all in
    let one = cols_of-wall _ (wall-lines has.lines has.rows_are.by_line (omega arith) has.rows_are.each) in omega arith

-- rows that are too many, or too long
pub tall-fault : (rows : List (List Cell)) → 1 ≤ cols_of rows → MAX_ROWS < length rows → cell_fault (board_of rows) ≡ Some TooTall
unfolding board_of
tall-fault rows some many =
    let count = row_count-board_of rows some in
    let long : MAX_ROWS < row_count (board_of rows) = omega arith in
    let test : nat_lt MAX_ROWS (row_count (board_of rows)) ≡ true = grind (arith, nat_tests) in
    ap (λ t. cond t (Some TooTall) (cond (nat_lt MAX_COLS (cols_of rows)) (Some TooWide) (count_fault (board_of rows)))) test

pub wide-fault : (rows : List (List Cell)) → 1 ≤ cols_of rows → length rows ≤ MAX_ROWS → MAX_COLS < cols_of rows →
    cell_fault (board_of rows) ≡ Some TooWide
unfolding board_of
wide-fault rows some short broad =
    let count = row_count-board_of rows some in
    let few : row_count (board_of rows) ≤ MAX_ROWS = omega arith in
    let test : nat_lt MAX_ROWS (row_count (board_of rows)) ≡ false = grind (arith, nat_tests) in
    let other : nat_lt MAX_COLS (cols_of rows) ≡ true = grind (arith, nat_tests) in
    ap (λ t. cond t (Some TooTall) (cond (nat_lt MAX_COLS (cols_of rows)) (Some TooWide) (count_fault (board_of rows)))) test
    ∙ ap (λ t. cond t (Some TooWide) (count_fault (board_of rows))) other

pub too-tall : {stretch : Stretch} (rows : List (List Cell)) → HasRows stretch rows → MAX_ROWS < stretch.size.rows → HasFault (board_of rows) TooTall
too-tall {stretch} rows has tall = let n = has.size.row_count in inl (tall-fault rows (HasRows-cols has) (omega arith))

pub too-wide : {stretch : Stretch} (rows : List (List Cell)) → HasRows stretch rows → stretch.size.rows ≤ MAX_ROWS → MAX_COLS < stretch.size.cols →
    HasFault (board_of rows) TooWide
too-wide {stretch} rows has short wide =
    let n = has.size.row_count in let m = has.size.col_count in
    inl (wide-fault rows (HasRows-cols has) (omega arith) (omega arith))

-- the columns that were counted are those of the rows, where there are not too many
pub cols-exact : {stretch : Stretch} (rows : List (List Cell)) → HasRows stretch rows → stretch.size.cols ≤ MAX_COLS → cols_of rows ≡ stretch.size.cols
cols-exact {stretch} rows has few = let m = has.size.col_count in omega arith

pub cells-whole : (cols : ℕ) (rows : List (List Cell)) (cells : List Cell) → cols_of rows ≡ cols → cells ≡ flat_map (padded cols) rows → length cells % cols ≡ 0
cells-whole cols rows cells e f = ap (λ c. length c % cols) f ∙ ap (λ n. n % cols) (length-padded_rows cols rows (omega arith)) ∙
    mul-mod_left (length rows) cols

-- the board that was handed in is that of the rows
pub same-board : {stretch : Stretch} (rows : List (List Cell)) (cells : List Cell) → HasRows stretch rows → stretch.size.cols ≤ MAX_COLS →
    cells ≡ flat_map (padded stretch.size.cols) rows →
    record { cols = stretch.size.cols; cells = cells } ≡ board_of rows
unfolding board_of
same-board {stretch} rows cells has few made =
    let cols = cols-exact rows has few in
    ap (λ c. record { cols = stretch.size.cols; cells = c }) made ∙ ap (λ n. record { cols = n; cells = flat_map (padded n) rows }) (sym cols)

pub judged-fault : {board other : Board} (f : LevelFault) (memory : Bool) → other ≡ board → IsRefusal other f →
    MatchBool memory (f ≡ OutOfMemory) (f ≢ OutOfMemory) → memory ≡ false → HasFault board f
judged-fault f true e fault is was = absurd (false≢true (sym was))
judged-fault f false e fault is was = ⊎_elim (λ h. subst (λ b. HasFault b f) e h) (λ m. absurd (is m.0)) fault
