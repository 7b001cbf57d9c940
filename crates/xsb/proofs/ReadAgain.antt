-- What is written is read again.
use Rattle.std.proofs.Common.{◌≡◌, ℕ, zero, suc, ◌-◌, ◌*◌, ◌<◌, ◌≤◌, Bool, true, false, cond, ◌==◌, nat_eq, List, []}
use Rattle.std.proofs.Common.{◌∷◌, ◌++◌, length, get_or, take, drop, map, max, replicate, flat_map, Contains, None}
use Rattle.std.proofs.Common.{refl, sym, ap, ◌∙◌, arith, append_assoc, subst, inl, inr, ⊎_elim, take_all, length-drop}
use Rattle.std.proofs.Common.{take-append-drop}
use Rattle.std.specs.List.{AllZip, AllByRecursion, slice_split, starts_with}
use Rattle.std.proofs.lemmas.Bool.{eqb-true, eqb-false, ne_eqb}
use Rattle.xsb.proofs.FirstItem.{none≢some}
use Rattle.std.proofs.lemmas.List.{append-nil, length-take-le, length-map}
use Rattle.std.proofs.lemmas.List.Folds.{flat_map-map}
use Rattle.std.proofs.lemmas.List.Splits.{slice_split_none, slice_split_at, length-slice_split}
use Rattle.std.proofs.lemmas.List.Elements.{All-from_recursion, recursion_from_All}
use Rattle.grid.specs.declared.cell.Cell.{Cell}
use Rattle.grid.specs.declared.cell.Cell.TheVariants.{Wall, Floor}
use Rattle.grid.specs.Board.{Board}
use Rattle.grid.specs.Lawful.{IsLevel, row_count}
use Rattle.xsb.specs.inside.Bytes.{bar, wall_byte, line_feed, carriage_return, cell_of, written_row}
use Rattle.xsb.specs.Lines.{without_mark, without_last, without_last_empty, lines_of_text}
use Rattle.xsb.specs.Boards.{before_rest, cut_end, cut_row, is_floor, cols_of, padded, board_of}
use Rattle.xsb.specs.Names.{name_of}
use Rattle.xsb.specs.Rows.{counted, IsRow, done, more, IsRowLine, cell_byte}
use Rattle.xsb.specs.Collection.{Part, IsCollection}
use Rattle.xsb.specs.Written.{written, rows_from}
use Rattle.xsb.specs.Rereading.{HasWallInEachRow, HasFullRow, rows_of_board}
use Rattle.xsb.proofs.CellBytes.{cell_of-cell_byte}
use Rattle.xsb.proofs.CutEnds.{filled-padded, length-cut_end}
use Rattle.xsb.proofs.BoardByBoard.{all-rows}
use Rattle.xsb.proofs.LineFeeds.{without_last_empty-cons}
use Rattle.xsb.proofs.RowLines.{some_of, has_byte-is}
use Rattle.xsb.proofs.Walls.{Has, has-contains}
use Rattle.xsb.proofs.CellsByReaders.{rows-whole}

-- the bytes of a row
abbrev pub line_of : List Cell → List ℕ
line_of row = map cell_byte (cut_row row)

-- ---- bytes that are written

no-cell : (b : ℕ) (c : Cell) (t : Bool) → (cell_byte c == b) ≡ t → cell_of b ≡ None → t ≡ false
no-cell b c false e none = refl
no-cell b c true e none =
    let same = eqb-true (cell_byte c) b e in
    absurd (none≢some (sym none ∙ ap cell_of (sym same) ∙ cell_of-cell_byte c))

-- a byte that is no cell's is not written
pub other-byte : (b : ℕ) (c : Cell) → cell_of b ≡ None → (cell_byte c == b) ≡ false
other-byte b c none = no-cell b c (cell_byte c == b) refl none

pub other-bytes : (b : ℕ) (cells : List Cell) → cell_of b ≡ None
    → AllByRecursion (λ x. (x == b) ≡ false) (map cell_byte cells)
other-bytes b [] none = tt
other-bytes b (c ∷ cells) none = (other-byte b c none, other-bytes b cells none)

-- cells are read as they are written, one by one
pub row-written : (cells : List Cell) → IsRow (map cell_byte cells) cells
row-written [] = done
row-written (c ∷ cells) = more (cell_byte c ∷ []) (map cell_byte cells) (c ∷ []) cells
    (counted [] 1 (cell_byte c) c (inl refl, refl) (inl refl)) (row-written cells)

-- ---- a written row is a row line

pub contains-here : {A : Type 0} (w : A) (xs : List A) → Has w xs → Contains xs w
contains-here w [] h = absurd h
contains-here w (x ∷ xs) h = ⊎_elim (λ e. (0, omega arith, e)) (λ l. let c = contains-here w xs l in
    (suc c.0, (let a = c.1 in omega arith), c.2)) h

pub has-map : (cells : List Cell) → Has Wall cells → Has wall_byte (map cell_byte cells)
has-map [] h = absurd h
has-map (c ∷ cells) h = ⊎_elim (λ e. inl (ap cell_byte e)) (λ l. inr (has-map cells l)) h

has-before : (t : Bool) (c : Cell) (cells : List Cell) → Has Wall cells → Has Wall (before_rest t c cells)
has-before true c [] h = absurd h
has-before true c (d ∷ cells) h = inr h
has-before false c cells h = inr h

pub has-cut : (row : List Cell) → Has Wall row → Has Wall (cut_row row)
has-cut [] h = absurd h
has-cut (c ∷ row) h = ⊎_elim
    (λ e. subst (λ t. Has Wall (before_rest t c (cut_row row))) (sym (ap is_floor e)) (inl e))
    (λ l. has-before (is_floor c) c (cut_row row) (has-cut row l)) h

has-some : {A : Type 0} (w : A) (xs : List A) → Has w xs → 0 < length xs
has-some w [] h = absurd h
has-some w (x ∷ xs) h = omega arith

row_line : (row : List Cell) → Has Wall (cut_row row) → IsRowLine (line_of row) (cut_row row ∷ [])
row_line row wall =
    let some = has-some Wall (cut_row row) wall in let long = length-map (cut_row row) cell_byte in
    let one : slice_split (λ b. b == bar) (line_of row) ≡ line_of row ∷ [] =
    slice_split_none (λ b. b == bar) (line_of row) (All-from_recursion _ _ (other-bytes bar (cut_row row) refl)) in
    let piece : some_of (slice_split (λ b. b == bar) (line_of row)) ≡ line_of row ∷ [] = ap some_of one ∙
    ap (λ t. cond t (line_of row ∷ []) []) (has_byte-is (line_of row) (omega arith)) in
    record {
      pieces = subst (λ ps. AllZip IsRow ps (cut_row row ∷ [])) (sym piece) (row-written (cut_row row), tt);
      wall = contains-here wall_byte (line_of row) (has-map (cut_row row) wall);
    }

-- ---- the lines of what is written

-- no byte of a line is a line feed
abbrev pub NoFeed : List ℕ → Type 0
NoFeed bytes = AllByRecursion (λ b. (b == line_feed) ≡ false) bytes

-- the lines of bytes before which no mark is skipped
abbrev pub lines_from : List ℕ → List (List ℕ)
lines_from bytes = map (without_last carriage_return) (without_last_empty (slice_split (λ b. b == line_feed) bytes))

-- a text of whole lines: they come before those of whatever follows
abbrev pub HasLines : List ℕ → List (List ℕ) → Type 0
HasLines bytes lines = (rest : List ℕ) → lines_from (bytes ++ rest) ≡ lines ++ lines_from rest

pub has-line : (bytes : List ℕ) → NoFeed bytes
    → HasLines (bytes ++ line_feed ∷ []) (without_last carriage_return bytes ∷ [])
has-line bytes none rest =
    let some = length-slice_split (λ b. b == line_feed) rest in
    ap lines_from (append_assoc bytes (line_feed ∷ []) rest)
    ∙ ap (λ parts. map (without_last carriage_return) (without_last_empty parts))
    (slice_split_at (λ b. b == line_feed) bytes line_feed rest (All-from_recursion _ _ none) refl)
    ∙ ap (map (without_last carriage_return))
    (without_last_empty-cons bytes (slice_split (λ b. b == line_feed) rest) (omega arith))

pub has-both : (one two : List ℕ) (lines others : List (List ℕ)) → HasLines one lines → HasLines two others
    → HasLines (one ++ two) (lines ++ others)
has-both one two lines others f g rest =
    ap lines_from (append_assoc one two rest) ∙ f (two ++ rest) ∙ ap (λ l. lines ++ l) (g rest)
    ∙ sym (append_assoc lines others (lines_from rest))

pub kept-whole : (c : ℕ) (bytes : List ℕ) → AllByRecursion (λ b. (b == c) ≡ false) bytes
    → without_last c bytes ≡ bytes
kept-whole c [] all = refl
kept-whole c (b ∷ []) all = ap (λ t. cond t [] (b ∷ [])) all.0
kept-whole c (b ∷ d ∷ bytes) all = ap (λ l. b ∷ l) (kept-whole c (d ∷ bytes) all.1)

-- a line that has no carriage return either
pub has-plain_line : (bytes : List ℕ) → NoFeed bytes → AllByRecursion (λ b. (b == carriage_return) ≡ false) bytes
    → HasLines (bytes ++ line_feed ∷ []) (bytes ∷ [])
has-plain_line bytes none all rest =
    has-line bytes none rest ∙ ap (λ l. l ∷ lines_from rest) (kept-whole carriage_return bytes all)

pub has-rows : (rows : List (List Cell)) → HasLines (flat_map written_row rows) (map line_of rows)
has-rows [] rest = refl
has-rows (row ∷ rows) rest =
    has-both (written_row row) (flat_map written_row rows) (line_of row ∷ []) (map line_of rows)
    (has-plain_line (line_of row) (other-bytes line_feed (cut_row row) refl)
    (other-bytes carriage_return (cut_row row) refl)) (has-rows rows) rest

starts-not : (b : ℕ) (bytes : List ℕ) → (b == 0xEF) ≡ false
    → starts_with nat_eq (b ∷ bytes) (0xEF ∷ 0xBB ∷ 0xBF ∷ []) ≡ false
starts-not b bytes e = let other : nat_eq 0xEF b ≡ false = ne_eqb 0xEF b (λ s. eqb-false b 0xEF e (sym s)) in
    rw other refl

-- a mark begins no written row
pub no-mark : (b : ℕ) (bytes : List ℕ) → (b == 0xEF) ≡ false → without_mark (b ∷ bytes) ≡ b ∷ bytes
no-mark b bytes e = ap (λ t. cond t (drop 3 (b ∷ bytes)) (b ∷ bytes)) (starts-not b bytes e)

front-byte : (cells : List Cell) (rest : List ℕ) → 1 ≤ length cells
    → without_mark (map cell_byte cells ++ rest) ≡ map cell_byte cells ++ rest
front-byte [] rest some = absurd (omega arith)
front-byte (c ∷ cells) rest some = no-mark (cell_byte c) (map cell_byte cells ++ rest) (other-byte 0xEF c refl)

-- ---- the board of what is written

before-cut : {A : Type 0} (test : A → Bool) (x : A) (ys : List A) (t : Bool) → test x ≡ t → cut_end test ys ≡ ys →
    cut_end test (before_rest t x ys) ≡ before_rest t x ys
before-cut test x [] true e f = refl
before-cut test x (y ∷ ys) true e f = ap (λ r. before_rest (test x) x r) f ∙ ap (λ t. before_rest t x (y ∷ ys)) e
before-cut test x ys false e f = ap (λ r. before_rest (test x) x r) f ∙ ap (λ t. before_rest t x ys) e

pub cut-twice : {A : Type 0} (test : A → Bool) (xs : List A) → cut_end test (cut_end test xs) ≡ cut_end test xs
cut-twice test [] = refl
cut-twice test (x ∷ xs) = before-cut test x (cut_end test xs) (test x) refl (cut-twice test xs)

cols-same : (f : List Cell → List Cell) → ((row : List Cell) → cut_row (f row) ≡ cut_row row)
    → (rows : List (List Cell)) → cols_of (map f rows) ≡ cols_of rows
cols-same f same [] = refl
cols-same f same (row ∷ rows) =
    ap (λ r. max (length r) (cols_of (map f rows))) (same row) ∙ ap (max (length (cut_row row))) (cols-same f same rows)

-- what is made of rows without the floor at their ends is made of rows that differ by such floor
pub flat_map-same : {A : Type 0} (g : List Cell → List A) (f : List Cell → List Cell)
    → ((row : List Cell) → cut_row (f row) ≡ cut_row row) → (rows : List (List Cell))
    → flat_map (λ row. g (cut_row row)) (map f rows) ≡ flat_map (λ row. g (cut_row row)) rows
flat_map-same g f same rows =
    flat_map-map (λ row. g (cut_row row)) f rows ∙ (λ i. flat_map (λ row. g (same row i)) rows)

-- rows that differ by floor at their ends make the same board
pub board-same : (f : List Cell → List Cell) → ((row : List Cell) → cut_row (f row) ≡ cut_row row)
    → (rows : List (List Cell)) → board_of (map f rows) ≡ board_of rows
unfolding board_of
board-same f same rows =
    let fill = λ (n : ℕ) (r : List Cell). r ++ replicate (n - length r) Floor in
    ap (λ n. record { cols = n; cells = flat_map (padded n) (map f rows) }) (cols-same f same rows)
    ∙ ap (λ cs. record { cols = cols_of rows; cells = cs }) (flat_map-same (fill (cols_of rows)) f same rows)

-- all rows have a length
abbrev AllLong : ℕ → List (List Cell) → Type 0
AllLong cols rows = AllByRecursion (λ row. length row ≡ cols) rows

cols_of-most : (cols : ℕ) (rows : List (List Cell)) → AllLong cols rows → cols_of rows ≤ cols
cols_of-most cols [] all = omega arith
cols_of-most cols (row ∷ rows) all = let a = length-cut_end is_floor row in let b = all.0 in
    let c = cols_of-most cols rows all.1 in omega arith

cols_of-least : (rows : List (List Cell)) (row : List Cell) (k : ℕ) → k < length rows → get_or rows k row ≡ row
    → length (cut_row row) ≤ cols_of rows
cols_of-least [] row k less e = absurd (omega arith)
cols_of-least (r ∷ rows) row zero less e = let same = ap (λ x. length (cut_row x)) e in omega arith
cols_of-least (r ∷ rows) row (suc k) less e = let more = cols_of-least rows row k (omega arith) e in omega arith

all-at : (cols : ℕ) (rows : List (List Cell)) (row : List Cell) (k : ℕ) → AllLong cols rows → k < length rows
    → get_or rows k row ≡ row → length row ≡ cols
all-at cols [] row k all less e = absurd (omega arith)
all-at cols (r ∷ rows) row zero all less e = ap length (sym e) ∙ all.0
all-at cols (r ∷ rows) row (suc k) all less e = all-at cols rows row k all.1 (omega arith) e

padded-row : (cols : ℕ) (row : List Cell) → length row ≡ cols → padded cols row ≡ row
padded-row cols row e =
    let short = length-cut_end is_floor row in
    sym (filled-padded cols row (omega arith))
    ∙ ap (λ n. take cols row ++ replicate n Floor) (let none : cols - length row ≡ 0 = omega arith in none)
    ∙ append-nil (take cols row) ∙
    take_all cols row (omega arith)

padded-rows : (cols : ℕ) (rows : List (List Cell)) → AllLong cols rows
    → flat_map (padded cols) rows ≡ flat_map (λ row. row) rows
padded-rows cols [] all = refl
padded-rows cols (row ∷ rows) all =
    ap (λ l. l ++ flat_map (padded cols) rows) (padded-row cols row all.0) ∙
    ap (λ l. row ++ l) (padded-rows cols rows all.1)

-- the rows of a list of cells
rows_from-long : (n cols : ℕ) (cells : List Cell) → n * cols ≡ length cells → AllLong cols (rows_from n cols cells)
rows_from-long zero cols cells e = tt
rows_from-long (suc n) cols cells e =
    let left = length-drop cols cells in
    (length-take-le cols cells (omega arith), rows_from-long n cols (drop cols cells) (omega arith))

rows_from-all : (n cols : ℕ) (cells : List Cell) → n * cols ≡ length cells
    → flat_map (λ row. row) (rows_from n cols cells) ≡ cells
rows_from-all zero cols [] e = refl
rows_from-all zero cols (c ∷ cells) e = absurd (omega arith)
rows_from-all (suc n) cols cells e =
    let left = length-drop cols cells in
    ap (λ l. take cols cells ++ l) (rows_from-all n cols (drop cols cells) (omega arith)) ∙ take-append-drop cols cells

board-again : (board : Board) → IsLevel board → HasFullRow board → board_of (rows_of_board board) ≡ board
unfolding board_of
board-again board level full =
    let rows = rows_of_board board in
    let whole = rows-whole board level in
    let long = rows_from-long (row_count board) board.cols board.cells whole in
    let most = cols_of-most board.cols rows long in
    let least = cols_of-least rows full.1 full.0 full.2 full.3 in
    let size = all-at board.cols rows full.1 full.0 long full.2 full.3 in
    let kept = ap length full.4 in
    let cols : cols_of rows ≡ board.cols = omega arith in
    ap (λ n. record { cols = n; cells = flat_map (padded n) rows }) cols
    ∙ ap (λ cs. record { cols = board.cols; cells = cs }) (padded-rows board.cols rows long
    ∙ rows_from-all (row_count board) board.cols board.cells whole)

-- ---- a collection of one board

-- all rows have a wall before the floor at their ends
abbrev pub AllWalls : List (List Cell) → Type 0
AllWalls rows = AllByRecursion (λ row. Has Wall (cut_row row)) rows

all-walls : (rows : List (List Cell)) → AllByRecursion (λ row. Contains row Wall) rows → AllWalls rows
all-walls [] walls = tt
all-walls (row ∷ rows) walls = (has-cut row (has-contains Wall row walls.0), all-walls rows walls.1)

pub each-line : (rows : List (List Cell)) → AllWalls rows
    → AllZip IsRowLine (map line_of rows) (map (λ row. cut_row row ∷ []) rows)
each-line [] walls = tt
each-line (row ∷ rows) walls = (row_line row walls.0, each-line rows walls.1)

join-rows : (rows : List (List Cell))
    → map (λ row. cut_row row) rows ≡ flat_map (λ r. r) (map (λ row. cut_row row ∷ []) rows)
join-rows [] = refl
join-rows (row ∷ rows) = ap (λ l. cut_row row ∷ l) (join-rows rows)

-- the rows that are read of each line are those of the board
pub board-joined : (rows : List (List Cell))
    → board_of rows ≡ board_of (flat_map (λ r. r) (map (λ row. cut_row row ∷ []) rows))
board-joined rows =
    sym (board-same (λ row. cut_row row) (λ row. cut-twice is_floor row) rows) ∙ ap board_of (join-rows rows)

text-lines : (rows : List (List Cell)) → 0 < length rows → AllWalls rows →
    lines_of_text (flat_map written_row rows) ≡ map line_of rows
unfolding lines_of_text
text-lines [] some walls = absurd (omega arith)
text-lines (row ∷ rows) some walls =
    let whole = append_assoc (line_of row) (line_feed ∷ []) (flat_map written_row rows) in
    ap lines_from (ap without_mark whole
    ∙ front-byte (cut_row row) (line_feed ∷ flat_map written_row rows) (has-some Wall (cut_row row) walls.0)
    ∙ sym whole ∙ sym (append-nil (flat_map written_row (row ∷ rows))))
    ∙ has-rows (row ∷ rows) [] ∙ append-nil (map line_of (row ∷ rows))

pub written-again : (board : Board) → IsLevel board → HasWallInEachRow board → HasFullRow board →
    IsCollection (written board) (record { name = []; first_line = 1; board = board } ∷ [])
unfolding IsCollection written name_of
written-again board level walls full =
    let rows = rows_of_board board in
    let walls = all-walls rows (recursion_from_All (λ row. Contains row Wall) rows walls) in
    let some : 0 < length rows = let less = full.2 in omega arith in
    let lines = text-lines rows some walls in
    let part : Part = record { board = map line_of rows; gap = [] } in
    let count = length-map rows line_of in
    let each = each-line rows walls in (
      [],
      part ∷ [],
      record {
        whole = lines ∙ sym (append-nil (map line_of rows)) ∙ sym (append-nil (map line_of rows ++ []));
        texts = tt;
        boards = (record { some = omega arith; board = all-rows (map line_of rows) _ each; gap = tt }, tt);
        apart = tt;
      },
      (
        record {
          name = refl;
          first_line = refl;
          board = (map (λ row. cut_row row ∷ []) rows, each, sym (board-again board level full) ∙ board-joined rows);
        },
        tt,
      ),
    )
