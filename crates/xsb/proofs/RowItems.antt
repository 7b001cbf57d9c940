-- Rows: the items of a piece, one after the other.
use Rattle.std.proofs.Common.{◌≡◌, ℕ, ◌+◌, ◌-◌, ◌^◌, ◌<◌, ◌≤◌, true, false, List, [], ◌∷◌, ◌++◌, length, replicate, take, min, refl, sym, ap, ◌∙◌, arith}
use Rattle.std.proofs.Common.{length-append, append_assoc, subst}
use Rattle.grid.specs.declared.cell.Cell.{Cell}
use Rattle.grid.specs.declared.cell.Cell.TheVariants.{Floor}
use Rattle.std.proofs.lemmas.List.{length-replicate, append-nil}
use Rattle.xsb.specs.Rows.{IsItem, counted, IsRow, done, more}
use Rattle.xsb.specs.inside.Reading.{saturated, HasNoItem, BeginsWithItem}
use Rattle.xsb.specs.declared.items.Run.{Run}
use Rattle.xsb.specs.Boards.{is_floor, cut_row, padded}
use Rattle.counts.specs.Counts.{repeats}
use Rattle.counts.proofs.lemmas.Digits.{one_run, means_some}
use Rattle.xsb.proofs.CutEnds.{cut_end-blank, cut_end-kept, cut_end-replicate, AllByRecursion-replicate, take-more, filled, filled-padded}
use Rattle.xsb.proofs.FirstItem.{shape-item}

-- an item has bytes
pub item-some : {item : List ℕ} {cells : List Cell} → IsItem item cells → 0 < length item
item-some is = let s = shape-item is in let e = ap length s.whole in omega (arith, length-append s.digits (s.byte ∷ []))

-- one item begins some bytes
pub record SameItem (i j r s : List ℕ) (x y : List Cell) : Type 0 where
  pub item : i ≡ j
  pub rest : r ≡ s
  pub cells : x ≡ y

pub same-item : {i j r s : List ℕ} {x y : List Cell} → IsItem i x → IsItem j y → i ++ r ≡ j ++ s → SameItem i j r s x y
same-item {i} {j} {r} {s} a b e =
    let f = shape-item a in let g = shape-item b in
    let front : f.digits ++ (f.byte ∷ r) ≡ g.digits ++ (g.byte ∷ s) =
    sym (append_assoc f.digits (f.byte ∷ []) r) ∙ ap (λ l. l ++ r) (sym f.whole) ∙ e ∙ ap (λ l. l ++ s) g.whole ∙ append_assoc g.digits (g.byte ∷ []) s in
    let same = one_run f.digits g.digits (f.byte ∷ r) (g.byte ∷ s) f.decimal g.decimal f.other g.other front in
    let digits = same.digits in let tail = same.more in
    let byte : f.byte ≡ g.byte = cc in
    let rest : r ≡ s = cc in
    let count : f.count ≡ g.count = f.counts.1 ∙ ap repeats digits ∙ sym g.counts.1 in
    let are = f.cell_is in let are2 = g.cell_is in
    let cell : f.cell ≡ g.cell = cc in
    record {
      item = f.whole ∙ ap (λ d. d ++ f.byte ∷ []) digits ∙ ap (λ b. g.digits ++ b ∷ []) byte ∙ sym g.whole;
      rest = rest;
      cells = f.cells_are ∙ ap (λ n. replicate n f.cell) count ∙ ap (λ c. replicate g.count c) cell ∙ sym g.cells_are;
    }

-- what follows the first item of a row is a row
pub row-rest : {piece : List ℕ} {row : List Cell} → IsRow piece row → (item rest : List ℕ) (cells : List Cell) → IsItem item cells → piece ≡ item ++ rest →
    (after : List Cell) × IsRow rest after × (row ≡ cells ++ after)
row-rest done item rest cells is e = absurd (let some = item-some is in let l = ap length e in omega (arith, length-append item rest))
row-rest (more i bytes x after first others) item rest cells is e =
    let same = same-item first is e in let bytes_are = same.rest in
    (after, subst (λ b. IsRow b after) bytes_are others, ap (λ c. c ++ after) same.cells)

-- no bytes are the row without cells
row-empty : {piece : List ℕ} {row : List Cell} → IsRow piece row → length piece ≡ 0 → row ≡ []
row-empty done e = refl
row-empty (more item bytes cells row first rest) e = absurd (let some = item-some first in omega (arith, length-append item bytes))

empty-row : (bytes : List ℕ) → length bytes ≡ 0 → IsRow bytes []
empty-row [] e = done
empty-row (b ∷ bytes) e = absurd (omega arith)

-- bytes are one row at most
pub same-row : {piece : List ℕ} {row : List Cell} → IsRow piece row → (other : List Cell) → IsRow piece other → row ≡ other
same-row done other is = sym (row-empty is refl)
same-row (more item bytes cells row first rest) other is =
    let tail = row-rest is item bytes cells first refl in
    ap (λ r. cells ++ r) (same-row rest tail.0 tail.1) ∙ sym tail.2

-- bytes that no item begins are no row, but for no bytes
pub no-row : {piece : List ℕ} {row : List Cell} → IsRow piece row → HasNoItem piece → length piece ≡ 0
no-row done none = refl
no-row (more item bytes cells row first rest) none = absurd (none item bytes cells first refl)

-- a piece is a front that is read, of some cells, and a rest
pub record IsFront (piece rest : List ℕ) (front : List Cell) : Type 0 where
  pub onto : (row : List Cell) → IsRow rest row → IsRow piece (front ++ row)
  pub after : (row : List Cell) → IsRow piece row → (left : List Cell) × IsRow rest left × (row ≡ front ++ left)

-- one item more is read
pub IsFront-more : {piece rest item after : List ℕ} {front cells : List Cell} → IsFront piece rest front → IsItem item cells → rest ≡ item ++ after →
    IsFront piece after (front ++ cells)
IsFront-more {piece} {rest} {item} {after} {front} {cells} is first e = record {
  onto = λ row more_rows. let whole : IsRow rest (cells ++ row) = subst (λ r. IsRow r (cells ++ row)) (sym e) (more item after cells row first more_rows) in
      subst (λ r. IsRow piece r) (sym (append_assoc front cells row)) (is.onto (cells ++ row) whole);
  after = λ row whole. let left = is.after row whole in let next = row-rest left.1 item after cells first e in
      (next.0, next.1, left.2 ∙ ap (λ l. front ++ l) next.2 ∙ sym (append_assoc front cells next.0));
}

-- an item stands for some cells
pub item-cells : {item : List ℕ} {cells : List Cell} → IsItem item cells → 0 < length cells
item-cells (counted digits n b c means e) = let some = means_some digits n means in omega (arith, length-replicate n c)

-- how far a row was read: its cells so far, and their number without floor at the end
pub record IsMeasured (piece rest : List ℕ) (front : List Cell) (size kept : ℕ) : Type 0 where
  pub front_is : IsFront piece rest front
  pub size_is : size ≡ saturated (length front)
  pub kept_is : kept ≡ saturated (length (cut_row front))

-- an item of floor more
pub IsMeasured-floor : {piece rest after : List ℕ} {front : List Cell} {size kept more : ℕ} (run : Run) → IsMeasured piece rest front size kept →
    BeginsWithItem rest run after →
    more ≡ min (size + run.count) (2 ^ 64 - 1) → is_floor run.cell ≡ true → IsMeasured piece after (front ++ replicate run.count run.cell) more kept
IsMeasured-floor {piece} {rest} {after} {front} {size} {kept} {more} run is begins e floor =
    let long = length-append front (replicate run.count run.cell) in let n = length-replicate run.count run.cell in let was = is.size_is in
    record {
      front_is = IsFront-more is.front_is begins.1 begins.2;
      size_is = omega arith;
      kept_is = rw (cut_end-blank is_floor front (replicate run.count run.cell) (AllByRecursion-replicate is_floor run.count run.cell floor)) is.kept_is;
    }

-- an item of other cells more
pub IsMeasured-other : {piece rest after : List ℕ} {front : List Cell} {size kept more : ℕ} (run : Run) → IsMeasured piece rest front size kept →
    BeginsWithItem rest run after →
    more ≡ min (size + run.count) (2 ^ 64 - 1) → is_floor run.cell ≡ false → IsMeasured piece after (front ++ replicate run.count run.cell) more more
IsMeasured-other {piece} {rest} {after} {front} {size} {kept} {more} run is begins e other =
    let long = length-append front (replicate run.count run.cell) in let n = length-replicate run.count run.cell in let was = is.size_is in
    let size_is : more ≡ saturated (length (front ++ replicate run.count run.cell)) = omega arith in
    record {
      front_is = IsFront-more is.front_is begins.1 begins.2;
      size_is = size_is;
      kept_is = rw (cut_end-kept is_floor front (replicate run.count run.cell) (item-cells begins.1) (cut_end-replicate is_floor run.count run.cell other))
          size_is;
    }

-- a row that is read to its end
pub IsMeasured-all : {piece rest : List ℕ} {front : List Cell} {size kept : ℕ} → IsMeasured piece rest front size kept → length rest ≡ 0 → (row : List Cell) ×
    IsRow piece row × (kept ≡ saturated (length (cut_row row)))
IsMeasured-all {piece} {rest} {front} is e = (front ++ [], is.front_is.onto [] (empty-row rest e), rw (append-nil front) is.kept_is)

-- how far a row was appended: its cells so far, as far as there are columns, stand after what was there
pub record IsPushed (piece rest : List ℕ) (front : List Cell) (cols room : ℕ) (old new : List Cell) : Type 0 where
  pub front_is : IsFront piece rest front
  pub room_is : room ≡ cols - length front
  pub cells_are : new ≡ old ++ take cols front

-- the cells of one run more
pub IsPushed-more : {piece rest after : List ℕ} {front : List Cell} {cols room n : ℕ} {old new newer : List Cell} (run : Run) →
    IsPushed piece rest front cols room old new → BeginsWithItem rest run after →
    n ≡ min run.count room → newer ≡ new ++ replicate n run.cell → IsPushed piece after (front ++ replicate run.count run.cell) cols (room - n) old newer
IsPushed-more {piece} {rest} {after} {front} {cols} {room} {n} {old} {new} {newer} run is begins e made =
    let long = length-append front (replicate run.count run.cell) in let many = length-replicate run.count run.cell in let was = is.room_is in
    record {
      front_is = IsFront-more is.front_is begins.1 begins.2;
      room_is = omega arith;
      cells_are = made ∙ ap (λ t. t ++ replicate n run.cell) is.cells_are ∙ append_assoc old (take cols front) (replicate n run.cell)
          ∙ ap (λ t. old ++ t) (sym (take-more cols front run.count n run.cell (rw (← was) e)));
    }

-- a row that is appended to its end, with floor up to the columns
pub IsPushed-all : {piece rest : List ℕ} {front : List Cell} {cols room : ℕ} {old new newer : List Cell} → IsPushed piece rest front cols room old new →
    HasNoItem rest →
    newer ≡ new ++ replicate room Floor → (row : List Cell) → IsRow piece row → length (cut_row row) ≤ cols → newer ≡ old ++ padded cols row
IsPushed-all {piece} {rest} {front} {cols} {room} {old} {new} {newer} is none made row whole short =
    let left = is.front_is.after row whole in
    let ended = row-empty left.1 (no-row left.1 none) in
    let all : row ≡ front = left.2 ∙ ap (λ l. front ++ l) ended ∙ append-nil front in
    made ∙ ap (λ t. t ++ replicate room Floor) is.cells_are ∙ append_assoc old (take cols front) (replicate room Floor)
    ∙ ap (λ r. old ++ (take cols front ++ replicate r Floor)) is.room_is ∙ ap (λ r. old ++ filled cols r) (sym all) ∙
    ap (λ t. old ++ t) (filled-padded cols row short)
