-- A board that was read is read back, from rows in lines or all in one line.
use Rattle.std.proofs.Common.{◌≡◌, ℕ, ◌-◌, ◌<◌, ◌≤◌, false, cond, ◌==◌, List, [], ◌∷◌, ◌++◌}
use Rattle.std.proofs.Common.{length, take, drop, map, replicate, flat_map, None, refl, sym, ap, ◌∙◌, arith, rules}
use Rattle.std.proofs.Common.{append_assoc, length-append, subst, ⊎_elim}
use Rattle.std.specs.List.{AllZip, AllByRecursion, slice_split}
use Rattle.std.proofs.lemmas.List.{append-nil, length-map}
use Rattle.std.proofs.lemmas.List.Concat.{flat_map-append}
use Rattle.std.proofs.lemmas.List.Elements.{All-from_recursion}
use Rattle.std.proofs.lemmas.List.Splits.{slice_split_at}
use Rattle.std.proofs.Math.Seq.{drop-append_seam, take-append_seam}
use Rattle.grid.specs.declared.cell.Cell.{Cell}
use Rattle.grid.specs.declared.cell.Cell.TheVariants.{Wall, Floor}
use Rattle.grid.specs.Board.{Board}
use Rattle.xsb.specs.Boards.{cut_row, is_floor, cols_of, padded, board_of}
use Rattle.xsb.specs.Rows.{IsRow, IsRowLine, cell_byte}
use Rattle.xsb.specs.Written.{written, rows_from}
use Rattle.xsb.specs.inside.Bytes.{bar, wall_byte, line_feed, carriage_return, cell_of, written_row}
use Rattle.xsb.proofs.CutEnds.{cut_end-blank, AllByRecursion-replicate}
use Rattle.xsb.proofs.Judging.{length-padded, row_count-board_of}
use Rattle.xsb.proofs.RowLines.{some_of, has_byte-is}
use Rattle.xsb.proofs.Walls.{Has, SomeHas, has-left, has-right, cols_of-wall}
use Rattle.xsb.proofs.ReadAgain.{AllWalls, HasLines, board-joined, board-same, contains-here, cut-twice, each-line}
use Rattle.xsb.proofs.ReadAgain.{flat_map-same, has-cut, has-map, has-plain_line, has-rows, line_of, other-byte}
use Rattle.xsb.proofs.ReadAgain.{other-bytes, row-written}

-- ---- the rows of a board that was read

rows-back : (cols : ℕ) (rows : List (List Cell)) → cols_of rows ≤ cols
    → rows_from (length rows) cols (flat_map (padded cols) rows) ≡ map (padded cols) rows
rows-back cols [] le = refl
rows-back cols (row ∷ rows) le =
    let first = padded cols row in let cells = flat_map (padded cols) rows in
    subst (λ n. (take n (first ++ cells) ∷ rows_from (length rows) cols (drop n (first ++ cells)))
    ≡ first ∷ map (padded cols) rows) (length-padded cols row (omega arith))
    (ap (λ r. r ∷ rows_from (length rows) cols (drop (length first) (first ++ cells))) (take-append_seam first cells)
    ∙ ap (λ l. first ∷ rows_from (length rows) cols l) (drop-append_seam first cells)
    ∙ ap (λ rs. first ∷ rs) (rows-back cols rows (omega arith)))

cut-padded : (cols : ℕ) (row : List Cell) → cut_row (padded cols row) ≡ cut_row row
cut-padded cols row =
    let left = cols - length (cut_row row) in
    cut_end-blank is_floor (cut_row row) (replicate left Floor) (AllByRecursion-replicate is_floor left Floor refl)
    ∙ cut-twice is_floor row

-- what is written of the board of some rows is what is written of the rows
pub written-rows : (rows : List (List Cell)) → SomeHas Wall rows → written (board_of rows) ≡ flat_map written_row rows
unfolding written board_of
written-rows rows wall =
    let cols = cols_of rows in let some = cols_of-wall rows wall in
    ap (λ n. flat_map written_row (rows_from n cols (flat_map (padded cols) rows))) (row_count-board_of rows some)
    ∙ ap (flat_map written_row) (rows-back cols rows (omega arith))
    ∙ flat_map-same (λ r. map cell_byte r ++ line_feed ∷ []) (padded cols) (cut-padded cols) rows

-- ---- rows in one line

-- a byte of rows that are written in one line
abbrev pub joined : ℕ → List ℕ
joined b = cond (b == line_feed) (32 ∷ bar ∷ []) (b ∷ [])

-- a row with floor at its end
abbrev pub floored : List Cell → List Cell
floored row = cut_row row ++ Floor ∷ []

-- a row as a piece of a line
abbrev piece_of : List Cell → List ℕ
piece_of row = map cell_byte (floored row)

join-cells : (cells : List Cell)
    → flat_map joined (map cell_byte cells ++ line_feed ∷ []) ≡ map cell_byte (cells ++ Floor ∷ []) ++ bar ∷ []
join-cells [] = refl
join-cells (c ∷ cells) =
    ap (λ t. cond t (32 ∷ bar ∷ []) (cell_byte c ∷ []) ++ flat_map joined (map cell_byte cells ++ line_feed ∷ []))
    (other-byte line_feed c refl)
    ∙ ap (λ l. cell_byte c ∷ l) (join-cells cells)

-- the pieces of a line, each ended by a bar
abbrev barred : List (List Cell) → List ℕ
barred rows = flat_map (λ row. piece_of row ++ bar ∷ []) rows

join-lines : (rows : List (List Cell)) → flat_map joined (flat_map written_row rows) ≡ barred rows
join-lines [] = refl
join-lines (row ∷ rows) =
    flat_map-append joined (written_row row) (flat_map written_row rows)
    ∙ ap (λ l. l ++ flat_map joined (flat_map written_row rows)) (join-cells (cut_row row))
    ∙ ap (λ l. (piece_of row ++ bar ∷ []) ++ l) (join-lines rows)

pieces-barred : (rows : List (List Cell)) → some_of (slice_split (λ b. b == bar) (barred rows)) ≡ map piece_of rows
pieces-barred [] = refl
pieces-barred (row ∷ rows) =
    let long = length-map (floored row) cell_byte in let more = length-append (cut_row row) (Floor ∷ []) in
    let others = slice_split (λ b. b == bar) (barred rows) in
    ap (λ l. some_of (slice_split (λ b. b == bar) l)) (append_assoc (piece_of row) (bar ∷ []) (barred rows))
    ∙ ap some_of (slice_split_at (λ b. b == bar) (piece_of row) bar (barred rows)
    (All-from_recursion _ _ (other-bytes bar (floored row) refl)) refl)
    ∙ ap (λ t. cond t (piece_of row ∷ some_of others) (some_of others)) (has_byte-is (piece_of row) (omega arith))
    ∙ ap (λ l. piece_of row ∷ l) (pieces-barred rows)

rows-barred : (rows : List (List Cell)) → AllZip IsRow (map piece_of rows) (map floored rows)
rows-barred [] = tt
rows-barred (row ∷ rows) = (row-written (floored row), rows-barred rows)

wall-barred : (rows : List (List Cell)) → SomeHas Wall rows → Has wall_byte (barred rows)
wall-barred [] h = absurd h
wall-barred (row ∷ rows) h = ⊎_elim
    (λ l. has-left wall_byte (piece_of row ++ bar ∷ []) (barred rows)
    (has-left wall_byte (piece_of row) (bar ∷ [])
    (has-map (floored row) (has-left Wall (cut_row row) (Floor ∷ []) (has-cut row l)))))
    (λ r. has-right wall_byte (piece_of row ++ bar ∷ []) (barred rows) (wall-barred rows r)) h

barred-line : (rows : List (List Cell)) → SomeHas Wall rows → IsRowLine (barred rows) (map floored rows)
barred-line rows wall = record {
  pieces = subst (λ ps. AllZip IsRow ps (map floored rows)) (sym (pieces-barred rows)) (rows-barred rows);
  wall = contains-here wall_byte (barred rows) (wall-barred rows wall);
}

pub all-both : {A : Type 0} (P : A → Type 0) (xs ys : List A) → AllByRecursion P xs → AllByRecursion P ys
    → AllByRecursion P (xs ++ ys)
all-both P [] ys a b = b
all-both P (x ∷ xs) ys a b = (a.0, all-both P xs ys a.1 b)

other-barred : (b : ℕ) (rows : List (List Cell)) → cell_of b ≡ None → (bar == b) ≡ false
    → AllByRecursion (λ x. (x == b) ≡ false) (barred rows)
other-barred b [] none other = tt
other-barred b (row ∷ rows) none other =
    search (rules, all-both, other-bytes b (floored row) none, other, other-barred b rows none other)

-- ---- the lines of a board

-- the text is the lines of the board
pub record AreLinesOf (board : Board) (text : List ℕ) : Type 0 where
  pub lines : List (List ℕ)
  pub has : HasLines text lines
  pub some : 0 < length lines
  pub rows : List (List (List Cell))
  pub each : AllZip IsRowLine lines rows
  pub made : board ≡ board_of (flat_map (λ r. r) rows)

pub lines-of_rows : (rows : List (List Cell)) → SomeHas Wall rows → AllWalls rows
    → AreLinesOf (board_of rows) (written (board_of rows))
lines-of_rows rows wall walls =
    let count = length-map rows line_of in let some = some-rows rows wall in
    record {
      lines = map line_of rows;
      has = subst (λ l. HasLines l (map line_of rows)) (sym (written-rows rows wall)) (has-rows rows);
      some = omega arith;
      rows = map (λ row. cut_row row ∷ []) rows;
      each = each-line rows walls;
      made = board-joined rows;
    }
  where
    some-rows : (rows : List (List Cell)) → SomeHas Wall rows → 0 < length rows
    some-rows [] h = absurd h
    some-rows (row ∷ rows) h = omega arith

pub lines-joined : (rows : List (List Cell)) → SomeHas Wall rows
    → AreLinesOf (board_of rows) (flat_map joined (written (board_of rows)) ++ line_feed ∷ [])
lines-joined rows wall =
    let same : flat_map joined (written (board_of rows)) ≡ barred rows =
    ap (flat_map joined) (written-rows rows wall) ∙ join-lines rows in
    record {
      lines = barred rows ∷ [];
      has = subst (λ l. HasLines (l ++ line_feed ∷ []) (barred rows ∷ [])) (sym same)
          (has-plain_line (barred rows) (other-barred line_feed rows refl refl)
          (other-barred carriage_return rows refl refl));
      some = omega arith;
      rows = map floored rows ∷ [];
      each = (barred-line rows wall, tt);
      made = sym (board-same floored (λ row. cut_end-blank is_floor (cut_row row) (Floor ∷ []) (refl, tt)
          ∙ cut-twice is_floor row) rows) ∙ ap board_of (sym (append-nil (map floored rows)));
    }
