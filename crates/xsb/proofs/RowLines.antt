-- Row lines: the rows of the pieces of a line.
use Rattle.std.proofs.Common.{◌≡◌, ℕ, zero, suc, ◌+◌, ◌-◌, ◌^◌, ◌<◌, ◌≤◌, Bool, true, false, cond, ◌==◌, List, [], ◌∷◌, ◌++◌, length, filter, get_or, nat_lt}
use Rattle.std.proofs.Common.{max, min, Contains, refl, sym, ap, ◌∙◌, arith, length-append, append_assoc, subst, take, take_all, flat_map}
use Rattle.std.proofs.lemmas.List.{append-nil}
use Rattle.std.proofs.lemmas.List.Concat.{flat_map-append}
use Rattle.std.specs.List.{AllZip, slice_split}
use Rattle.std.proofs.lemmas.Bool.{false≢true}
use Rattle.std.proofs.lemmas.Bool.Decides.{nat_tests}
use Rattle.std.proofs.lemmas.List.Elements.{filter-append}
use Rattle.grid.specs.declared.cell.Cell.{Cell}
use Rattle.xsb.specs.inside.Bytes.{bar, wall_byte}
use Rattle.xsb.specs.declared.sizes.Size.{Size}
use Rattle.xsb.specs.Boards.{cols_of, cut_row, padded}
use Rattle.xsb.proofs.CutEnds.{take-zero}
use Rattle.xsb.specs.Rows.{IsRow, IsRowLine, IsTextLine}
use Rattle.xsb.specs.inside.Reading.{saturated, IsSize}

-- the pieces that have a byte
abbrev pub has_byte : List ℕ → Bool
has_byte piece = nat_lt 0 (length piece)

abbrev pub some_of : List (List ℕ) → List (List ℕ)
some_of pieces = filter has_byte pieces

-- rows of pieces, and their size
pub record IsCounted (pieces : List (List ℕ)) (rows : List (List Cell)) (size : Size) : Type 0 where
  pub rows_are : AllZip IsRow (some_of pieces) rows
  pub size_is : IsSize size rows

pub AllZip-last : {A B : Type 0} (R : A → B → Type 0) (xs : List A) (ys : List B) (x : A) (y : B) → AllZip R xs ys → R x y →
    AllZip R (xs ++ x ∷ []) (ys ++ y ∷ [])
AllZip-last R [] [] x y all is = (is, tt)
AllZip-last R [] (z ∷ ys) x y all is = absurd all
AllZip-last R (w ∷ xs) [] x y all is = absurd all
AllZip-last R (w ∷ xs) (z ∷ ys) x y all is = (all.0, AllZip-last R xs ys x y all.1 is)

pub cols_of-append : (rows more : List (List Cell)) → cols_of (rows ++ more) ≡ max (cols_of rows) (cols_of more)
cols_of-append [] more = omega arith
cols_of-append (row ∷ rows) more = let e = cols_of-append rows more in omega arith

pub has_byte-is : (piece : List ℕ) → 0 < length piece → has_byte piece ≡ true
has_byte-is piece some = grind (arith, nat_tests)

some_of-last : (pieces : List (List ℕ)) (piece : List ℕ) → 0 < length piece → some_of (pieces ++ piece ∷ []) ≡ some_of pieces ++ piece ∷ []
some_of-last pieces piece some = filter-append has_byte pieces (piece ∷ []) ∙ ap (λ t. some_of pieces ++ cond t (piece ∷ []) []) (has_byte-is piece some)

-- one piece more
pub IsCounted-more : {pieces : List (List ℕ)} {rows : List (List Cell)} {size : Size} {m n cols : ℕ} (piece : List ℕ) (row : List Cell) →
    IsCounted pieces rows size → 0 < length piece → IsRow piece row →
    n ≡ saturated (length (cut_row row)) → m ≡ min (size.rows + 1) (2 ^ 64 - 1) → cols ≡ max size.cols n →
    IsCounted (pieces ++ piece ∷ []) (rows ++ row ∷ []) (record { rows = m; cols = cols })
IsCounted-more {pieces} {rows} {size} {m} {n} {cols} piece row is some is_row e f g =
    let a = is.size_is.row_count in let b = is.size_is.col_count in
    let long = length-append rows (row ∷ []) in let wide = cols_of-append rows (row ∷ []) in
    record {
      rows_are = subst (λ ps. AllZip IsRow ps (rows ++ row ∷ [])) (sym (some_of-last pieces piece some))
          (AllZip-last IsRow (some_of pieces) rows piece row is.rows_are is_row);
      size_is = record { row_count = omega arith; col_count = omega arith };
    }

row-first : (p : List ℕ) (all : List (List ℕ)) (rows : List (List Cell)) (piece : List ℕ) (t : Bool) → t ≡ true → AllZip IsRow (cond t (p ∷ all) all) rows →
    piece ≡ p → (row : List Cell) × IsRow piece row
row-first p all rows piece false e zip at = absurd (let f : false ≡ true = e in false≢true f)
row-first p all [] piece true e zip at = absurd zip
row-first p all (row ∷ rows) piece true e zip at = (row, subst (λ q. IsRow q row) (sym at) zip.0)

row-later : (p : List ℕ) (all : List (List ℕ)) (rows : List (List Cell)) (piece : List ℕ) (t : Bool) → AllZip IsRow (cond t (p ∷ all) all) rows →
    ((left : List (List Cell)) → AllZip IsRow all left → (row : List Cell) × IsRow piece row) → (row : List Cell) × IsRow piece row
row-later p all rows piece false zip rest = rest rows zip
row-later p all [] piece true zip rest = absurd zip
row-later p all (row ∷ rows) piece true zip rest = rest rows zip.1

-- a piece of a row line that has a byte is a row
row-at : (all : List (List ℕ)) (rows : List (List Cell)) (k : ℕ) (piece : List ℕ) → AllZip IsRow (some_of all) rows → k < length all →
    piece ≡ get_or all k piece → 0 < length piece → (row : List Cell) × IsRow piece row
row-at [] rows k piece zip in_all at some = absurd (omega arith)
row-at (p ∷ all) rows zero piece zip in_all at some = row-first p (some_of all) rows piece (has_byte p) (ap has_byte (sym at) ∙ has_byte-is piece some) zip at
row-at (p ∷ all) rows (suc k) piece zip in_all at some =
    row-later p (some_of all) rows piece (has_byte p) zip (λ left rest. row-at all left k piece rest (omega arith) at some)

-- a line with a piece that has a byte and is no row is a text line
pub text-piece : {line : List ℕ} {k : ℕ} (piece : List ℕ) → (k < length (slice_split (λ b. b == bar) line)) ×
    (piece ≡ get_or (slice_split (λ b. b == bar) line) k piece) → 0 < length piece → ((row : List Cell) → ¬ (IsRow piece row)) → IsTextLine line
text-piece {line} {k} piece at some none rows is = let row = row-at (slice_split (λ b. b == bar) line) rows k piece is.pieces at.0 at.1 some in none row.0 row.1

-- all pieces counted, and a wall among the bytes: a row line
pub IsRowLine-counted : {line : List ℕ} {pieces : List (List ℕ)} {rows : List (List Cell)} {size : Size} → IsCounted pieces rows size →
    pieces ≡ slice_split (λ b. b == bar) line → Contains line wall_byte → (of : List (List Cell)) × IsRowLine line of × IsSize size of
IsRowLine-counted {line} {pieces} {rows} is all wall = (
  rows,
  record { pieces = subst (λ ps. AllZip IsRow (some_of ps) rows) all is.rows_are; wall = wall },
  is.size_is,
)

-- the rows of the first pieces of a line
abbrev pub first_rows : ℕ → List (List ℕ) → List (List Cell) → List (List Cell)
first_rows k all rows = take (length (some_of (take k all))) rows

-- a piece at a place, with its row
pub record IsPieceRow (all : List (List ℕ)) (rows : List (List Cell)) (k : ℕ) (piece : List ℕ) (row : List Cell) : Type 0 where
  pub row_is : IsRow piece row
  pub short : length (cut_row row) ≤ cols_of rows
  pub next : first_rows (suc k) all rows ≡ first_rows k all rows ++ row ∷ []

piece-first : (p : List ℕ) (all : List (List ℕ)) (rows : List (List Cell)) (piece : List ℕ) (t : Bool) → t ≡ true → AllZip IsRow (cond t (p ∷ all) all) rows →
    piece ≡ p →
    (row : List Cell) × IsRow piece row × (length (cut_row row) ≤ cols_of rows) × (take (length (cond t (p ∷ []) [])) rows ≡ row ∷ [])
piece-first p all rows piece false e zip at = absurd (let f : false ≡ true = e in false≢true f)
piece-first p all [] piece true e zip at = absurd zip
piece-first p all (row ∷ rows) piece true e zip at = (row, subst (λ q. IsRow q row) (sym at) zip.0, omega arith, ap (λ r. row ∷ r) (take-zero rows))

piece-later : (p : List ℕ) (all : List (List ℕ)) (rows : List (List Cell)) (k : ℕ) (piece : List ℕ) (t : Bool) →
    AllZip IsRow (cond t (p ∷ some_of all) (some_of all)) rows →
    ((left : List (List Cell)) → AllZip IsRow (some_of all) left → (row : List Cell) × IsPieceRow all left k piece row) →
    (row : List Cell) × IsRow piece row × (length (cut_row row) ≤ cols_of rows) ×
    (take (length (cond t (p ∷ some_of (take (suc k) all)) (some_of (take (suc k) all)))) rows ≡
    take (length (cond t (p ∷ some_of (take k all)) (some_of (take k all)))) rows ++ row ∷ [])
piece-later p all rows k piece false zip rest = let r = rest rows zip in (r.0, r.1.row_is, r.1.short, r.1.next)
piece-later p all [] k piece true zip rest = absurd zip
piece-later p all (row ∷ rows) k piece true zip rest = let r = rest rows zip.1 in let s = r.1.short in
    (r.0, r.1.row_is, omega arith, ap (λ l. row ∷ l) r.1.next)

-- a piece with a byte has a row, which comes next
pub IsPieceRow-some : (all : List (List ℕ)) (rows : List (List Cell)) (k : ℕ) (piece : List ℕ) → AllZip IsRow (some_of all) rows → k < length all →
    piece ≡ get_or all k piece → 0 < length piece → (row : List Cell) × IsPieceRow all rows k piece row
IsPieceRow-some [] rows k piece zip in_all at some = absurd (omega arith)
IsPieceRow-some (p ∷ all) rows zero piece zip in_all at some =
    let r = piece-first p (some_of all) rows piece (has_byte p) (ap has_byte (sym at) ∙ has_byte-is piece some) zip at in
    let none : some_of (take 0 all) ≡ [] = ap some_of (take-zero all) in (
      r.0,
      record {
        row_is = r.1;
        short = r.2;
        next = ap (λ l. take (length (cond (has_byte p) (p ∷ l) l)) rows) none ∙ r.3 ∙
            ap (λ l. l ++ r.0 ∷ []) (sym (take-zero rows));
      },
    )
IsPieceRow-some (p ∷ all) rows (suc k) piece zip in_all at some =
    let r = piece-later p all rows k piece (has_byte p) zip (λ left rest. IsPieceRow-some all left k piece rest (omega arith) at some) in
    (r.0, record { row_is = r.1; short = r.2; next = r.3 })

-- an empty piece has none
empty-first : (p : List ℕ) (t : Bool) (ps : List (List ℕ)) → t ≡ false → length (cond t (p ∷ ps) ps) ≡ length ps
empty-first p true ps e = absurd (false≢true (sym e))
empty-first p false ps e = refl

empty-both : (p : List ℕ) (t : Bool) (ps qs : List (List ℕ)) → length ps ≡ length qs → length (cond t (p ∷ ps) ps) ≡ length (cond t (p ∷ qs) qs)
empty-both p true ps qs e = ap suc e
empty-both p false ps qs e = e

pub some_of-empty : (all : List (List ℕ)) (k : ℕ) (piece : List ℕ) → k < length all → piece ≡ get_or all k piece → length piece ≡ 0 →
    length (some_of (take (suc k) all)) ≡ length (some_of (take k all))
some_of-empty [] k piece in_all at none = absurd (omega arith)
some_of-empty (p ∷ all) zero piece in_all at none =
    let no : has_byte p ≡ false = ap has_byte (sym at) ∙ ap (λ n. nat_lt 0 n) none in
    empty-first p (has_byte p) (some_of (take 0 all)) no ∙ ap (λ l. length (some_of l)) (take-zero all)
some_of-empty (p ∷ all) (suc k) piece in_all at none =
    let e = some_of-empty all k piece (omega arith) at none in empty-both p (has_byte p) (some_of (take (suc k) all)) (some_of (take k all)) e

pub AllZip-length : {A B : Type 0} (R : A → B → Type 0) (xs : List A) (ys : List B) → AllZip R xs ys → length xs ≡ length ys
AllZip-length R [] [] all = refl
AllZip-length R [] (y ∷ ys) all = absurd all
AllZip-length R (x ∷ xs) [] all = absurd all
AllZip-length R (x ∷ xs) (y ∷ ys) all = ap suc (AllZip-length R xs ys all.1)

-- all pieces: all rows
pub first_rows-all : (all : List (List ℕ)) (rows : List (List Cell)) (k : ℕ) → AllZip IsRow (some_of all) rows → k ≡ length all → first_rows k all rows ≡ rows
first_rows-all all rows k zip e =
    let whole : take k all ≡ all = take_all k all (omega arith) in
    ap (λ l. take (length (some_of l)) rows) whole ∙ ap (λ n. take n rows) (AllZip-length IsRow (some_of all) rows zip) ∙
    take_all (length rows) rows (omega arith)

-- what is appended with the pieces so far
pub record PushesRows (line : List ℕ) (cols k : ℕ) (old new : List Cell) : Type 0 where
  pub made : (rows : List (List Cell)) → IsRowLine line rows → cols_of rows ≤ cols →
      new ≡ old ++ flat_map (padded cols) (first_rows k (slice_split (λ b. b == bar) line) rows)

pub PushesRows-empty : {line : List ℕ} {cols k n : ℕ} {old new : List Cell} (piece : List ℕ) → PushesRows line cols k old new → n ≡ suc k →
    (k < length (slice_split (λ b. b == bar) line)) × (piece ≡ get_or (slice_split (λ b. b == bar) line) k piece) → length piece ≡ 0 →
    PushesRows line cols n old new
PushesRows-empty {line} {cols} {k} {n} {old} {new} piece pushes e at none = rw e (record {
  made = λ rows is wide. pushes.made rows is wide
      ∙ ap (λ m. old ++ flat_map (padded cols) (take m rows)) (sym (some_of-empty (slice_split (λ b. b == bar) line) k piece at.0 at.1 none));
})

pub PushesRows-more : {line : List ℕ} {cols k n : ℕ} {old new newer : List Cell} (piece : List ℕ) → PushesRows line cols k old new → n ≡ suc k →
    (k < length (slice_split (λ b. b == bar) line)) × (piece ≡ get_or (slice_split (λ b. b == bar) line) k piece) → 0 < length piece →
    ((row : List Cell) → IsRow piece row → length (cut_row row) ≤ cols → newer ≡ new ++ padded cols row) → PushesRows line cols n old newer
PushesRows-more {line} {cols} {k} {n} {old} {new} {newer} piece pushes e at some pushed = rw e (record {
  made = λ rows is wide.
      let r = IsPieceRow-some (slice_split (λ b. b == bar) line) rows k piece is.pieces at.0 at.1 some in
      let short = r.1.short in
      let so_far = first_rows k (slice_split (λ b. b == bar) line) rows in
      pushed r.0 r.1.row_is (omega arith) ∙ ap (λ t. t ++ padded cols r.0) (pushes.made rows is wide)
      ∙ append_assoc old (flat_map (padded cols) so_far) (padded cols r.0)
      ∙ ap (λ t. old ++ t) (sym (flat_map-append (padded cols) so_far (r.0 ∷ []) ∙ ap (λ t. flat_map (padded cols) so_far ++ t) (append-nil (padded cols r.0))))
      ∙ ap (λ l. old ++ flat_map (padded cols) l) (sym r.1.next);
})

pub PushesRows-all : {line : List ℕ} {cols k : ℕ} {old new : List Cell} → PushesRows line cols k old new → k ≡ length (slice_split (λ b. b == bar) line) →
    (rows : List (List Cell)) → IsRowLine line rows → cols_of rows ≤ cols → new ≡ old ++ flat_map (padded cols) rows
PushesRows-all {line} {cols} {k} {old} {new} pushes e rows is wide =
    pushes.made rows is wide ∙ ap (λ l. old ++ flat_map (padded cols) l) (first_rows-all (slice_split (λ b. b == bar) line) rows k is.pieces e)
