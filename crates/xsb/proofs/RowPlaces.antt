-- The places of the rows of a board, line by line.
use Rattle.std.proofs.Common.{◌≡◌, ℕ, suc, ◌+◌, ◌-◌, ◌<◌, ◌≤◌, Bool, List, ◌∷◌, ◌++◌, length, take, replicate, flat_map, refl, sym, ap, ◌∙◌, arith}
use Rattle.std.proofs.Common.{append_assoc, subst, Some, None, Result, Err, Vec, Global}
use Rattle.std.proofs.Math.Seq.{take-append_seam}
use Rattle.std.proofs.lemmas.Nat.{mul-le}
use Rattle.grid.specs.declared.cell.Cell.{Cell}
use Rattle.grid.specs.declared.limits.TheConstants.{MAX_ROWS, MAX_COLS}
use Rattle.xsb.specs.Boards.{board_of, cols_of, padded}
use Rattle.xsb.specs.Collection.{Found}
use Rattle.xsb.specs.Places.{IsFirstPast, is_plain, row_places}
use Rattle.xsb.specs.Rows.{pieces_of}
use Rattle.xsb.specs.declared.boards.Stretch.{Stretch}
use Rattle.xsb.specs.declared.lines.Lines.{Lines}
use Rattle.xsb.specs.declared.places.BoardRows.{BoardRows}
use Rattle.xsb.specs.declared.places.Excess.{Excess}
use Rattle.xsb.specs.declared.places.Excess.TheVariants.{Rows, Columns}
use Rattle.xsb.specs.declared.places.RowPlace.{RowPlace}
use Rattle.xsb.specs.inside.Cursors.{IsAt}
use Rattle.xsb.specs.inside.Gaps.{BeginsGap}
use Rattle.xsb.specs.inside.Reading.{cut_line, cut_lines}
use Rattle.xsb.specs.inside.Sources.{AreRowsOf, HasRowsFor, HasSource, IsTaken}
use Rattle.xsb.specs.inside.Stretches.{HasRows, IsPastAt}
use Rattle.xsb.proofs.Judging.{HasRows-cols, cols-exact, length-padded_rows, row_count-board_of, same-board, tall-fault, wide-fault}

-- the places so far, and those of the lines that are left, are all places
pub record Placing (all : List RowPlace) (count k number : ℕ) (rest : List (List ℕ)) (places : List RowPlace) : Type 0 where
  pub made : all ≡ places ++ row_places number (take (count - k) (cut_lines rest))

-- one line more
pub Placing-more : {all : List RowPlace} {count k number : ℕ} {rest : List (List ℕ)} {places : List RowPlace} (raw : List ℕ) (next : List (List ℕ)) (n next_number : ℕ)
    (fresh : List RowPlace) (rows : ℕ) (plain : Bool) → Placing all count k number rest places → k < count → n ≡ k + 1 → next_number ≡ number + 1 → rest ≡ raw ∷ next →
    rows ≡ length (pieces_of (cut_line raw)) → plain ≡ is_plain (cut_line raw) →
    fresh ≡ places ++ replicate rows (record { line = number; plain = plain }) → Placing all count n next_number next fresh
Placing-more {all} {count} {k} {number} {rest} {places} raw next n next_number fresh rows plain is less e f g h i pushed =
    let left : count - k ≡ suc (count - n) = omega arith in
    let after : suc number ≡ next_number = omega arith in
    let this : RowPlace = record { line = number; plain = is_plain (cut_line raw) } in
    let one = replicate (length (pieces_of (cut_line raw))) this in
    let begun : row_places number (take (count - k) (cut_lines rest)) ≡ one ++ row_places (suc number) (take (count - n) (cut_lines next)) =
    ap (λ m. row_places number (take m (cut_lines rest))) left ∙ ap (λ l. row_places number (take (suc (count - n)) (cut_lines l))) g in
    let pushed_is : fresh ≡ places ++ one = pushed ∙ ap (λ m. places ++ replicate m (record { line = number; plain = plain })) h ∙
    ap (λ p. places ++ replicate (length (pieces_of (cut_line raw))) (record { line = number; plain = p })) i in
    record {
      made = is.made ∙ ap (λ l. places ++ l) begun ∙ sym (append_assoc places one (row_places (suc number) (take (count - n) (cut_lines next)))) ∙
          ap (λ l. l ++ row_places (suc number) (take (count - n) (cut_lines next))) (sym pushed_is) ∙
          ap (λ m. fresh ++ row_places m (take (count - n) (cut_lines next))) after;
    }

take-front : (xs ys : List (List ℕ)) (n : ℕ) → n ≡ length xs → take n (xs ++ ys) ≡ xs
take-front xs ys n e = ap (λ k. take k (xs ++ ys)) e ∙ take-append_seam xs ys

-- the lines of a stretch
lines-of : {stretch : Stretch} {rows : List (List Cell)} → (has : HasRows stretch rows) → has.lines ≡ take stretch.count (cut_lines stretch.lines)
lines-of {stretch} has = sym (ap (take stretch.count) has.whole ∙ take-front has.lines has.after stretch.count (sym has.count))

-- its rows are too many, or too long
pub rows-tall : {stretch : Stretch} (rows : List (List Cell)) (n : ℕ) → HasRows stretch rows → stretch.beyond.rows ≡ Some n →
    HasRowsFor (take stretch.count (cut_lines stretch.lines)) stretch.first_line (board_of rows) (Err (Rows n))
rows-tall {stretch} rows n has is =
    let past = subst (λ o. IsPastAt length MAX_ROWS has.lines rows stretch.first_line o) is has.past.tall in (
      subst (λ l. IsFirstPast length MAX_ROWS l stretch.first_line n) (lines-of has) past.0,
      tall-fault rows (HasRows-cols has) past.1,
    )

pub rows-wide : {stretch : Stretch} (rows : List (List Cell)) (n : ℕ) → HasRows stretch rows → stretch.beyond.rows ≡ None → stretch.beyond.cols ≡ Some n →
    HasRowsFor (take stretch.count (cut_lines stretch.lines)) stretch.first_line (board_of rows) (Err (Columns n))
rows-wide {stretch} rows n has short is =
    let few : length rows ≤ MAX_ROWS = subst (λ o. IsPastAt length MAX_ROWS has.lines rows stretch.first_line o) short has.past.tall in
    let past = subst (λ o. IsPastAt cols_of MAX_COLS has.lines rows stretch.first_line o) is has.past.wide in (
      subst (λ l. IsFirstPast cols_of MAX_COLS l stretch.first_line n) (lines-of has) past.0,
      wide-fault rows (HasRows-cols has) few past.1,
    )

-- or they are within the limits
pub rows-made : {stretch : Stretch} (rows : List (List Cell)) (cells : Vec Cell Global) (places : Vec RowPlace Global) → HasRows stretch rows →
    stretch.beyond.rows ≡ None → stretch.beyond.cols ≡ None →
    (cols_of rows ≤ stretch.size.cols → cells.items ≡ flat_map (padded stretch.size.cols) rows) →
    places.items ≡ row_places stretch.first_line (take stretch.count (cut_lines stretch.lines)) →
    AreRowsOf (take stretch.count (cut_lines stretch.lines)) stretch.first_line (board_of rows)
    (record { cols = stretch.size.cols; cells = cells; places = places })
rows-made {stretch} rows cells places has short narrow made are =
    let few : length rows ≤ MAX_ROWS = subst (λ o. IsPastAt length MAX_ROWS has.lines rows stretch.first_line o) short has.past.tall in
    let thin : cols_of rows ≤ MAX_COLS = subst (λ o. IsPastAt cols_of MAX_COLS has.lines rows stretch.first_line o) narrow has.past.wide in
    let sized = has.size.col_count in
    let small : stretch.size.cols ≤ MAX_COLS = omega arith in
    let exact = cols-exact rows has small in let some = HasRows-cols has in
    let items = made (omega arith) in
    let long = ap length items ∙ length-padded_rows stretch.size.cols rows (omega arith) in
    let most = mul-le (length rows) stretch.size.cols 255 255 few small in
    record {
      board_is = sym (same-board rows cells.items has small items);
      places_are = sym are;
      columns = omega arith;
      wide = small;
      tall = let n = row_count-board_of rows some in omega arith;
      bound = omega arith;
    }

-- the source of a board that was taken
pub HasSource-taken : {old new : Lines} {found : Found} {stretch : Stretch} (bytes : List ℕ) → IsAt bytes old → (is : IsTaken old new found stretch)
    (rows : Result BoardRows Excess) → HasRowsFor (take stretch.count (cut_lines stretch.lines)) stretch.first_line (board_of is.read.rows) rows →
    HasSource bytes found rows
HasSource-taken {old} {new} {found} {stretch} bytes here is rows for_rows =
    let read = is.read in let after = cut_lines is.mid.rest in
    let lines : take stretch.count (cut_lines stretch.lines) ≡ read.lines =
    ap (λ l. take stretch.count l) (ap cut_lines read.from ∙ read.read.whole) ∙ take-front read.lines after stretch.count read.count in
    let first : stretch.first_line ≡ found.first_line = read.first_line ∙ sym is.first_line in (
      row_places found.first_line read.lines,
      record {
        before = here.before;
        lines = read.lines;
        after = after;
        whole = here.whole ∙ ap (λ l. here.before ++ l) read.read.whole;
        first = is.first_line ∙ here.number;
        some = read.some;
        ends = λ next rest e. subst BeginsGap e read.ends;
        rows = read.read.rows_are.by_line;
        each = read.read.rows_are.each;
        made = is.board ∙ ap board_of read.read.rows_are.all;
        places_are = refl;
      },
      subst (λ b. HasRowsFor read.lines found.first_line b rows) (sym is.board)
          (subst (λ n. HasRowsFor read.lines n (board_of read.rows) rows) first
          (subst (λ l. HasRowsFor l stretch.first_line (board_of read.rows) rows) lines for_rows)),
    )
