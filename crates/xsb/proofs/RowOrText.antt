-- Each line is a row line or a text line.
use Rattle.std.proofs.Common.{◌≡◌, ℕ, zero, suc, ◌<◌, ◌≤◌, Bool, true, false, ◌==◌, List, [], ◌∷◌, ◌++◌, length, replicate, take, drop, Contains, Option, Some}
use Rattle.std.proofs.Common.{None, refl, sym, ap, ◌∙◌, arith, length-append, subst, ◌⊎◌, inl, inr, ⊎_elim}
use Rattle.std.specs.List.{AllZip, slice_split, prefix_len}
use Rattle.std.specs.Char.{is_ascii_digit}
use Rattle.std.proofs.lemmas.Bool.{false≢true, eqb-true, eq-eqb}
use Rattle.grid.specs.declared.cell.Cell.{Cell}
use Rattle.xsb.specs.inside.Bytes.{bar, wall_byte, cell_of}
use Rattle.xsb.specs.declared.items.Run.{Run}
use Rattle.xsb.specs.Rows.{IsRow, done, more, IsRowLine, IsTextLine}
use Rattle.xsb.specs.inside.Reading.{HasNoItem, BeginsWithItem}
use Rattle.counts.specs.Counts.{IsCount, repeats}
use Rattle.counts.specs.NoCount.{IsNoCount}
use Rattle.counts.proofs.lemmas.Digits.{count_or_not}
use Rattle.xsb.proofs.FirstItem.{IsCutAtDigits, cut-at_digits, begins-with_item, no-item_empty, no-item_cell, no-item_count}
use Rattle.xsb.proofs.RowItems.{item-some, no-row, row-rest}
use Rattle.xsb.proofs.RowLines.{some_of}
use Rattle.xsb.proofs.Walls.{Has, has-contains}

-- what begins a piece: an item, or none
abbrev BeginsSo : List ℕ → Type 0
BeginsSo piece = ((run : Run) × (rest : List ℕ) × BeginsWithItem piece run rest) ⊎ HasNoItem piece

item-counted : (piece digits rest after : List ℕ) (b : ℕ) (c : Cell) → IsCutAtDigits piece digits rest → rest ≡ b ∷ after → cell_of b ≡ Some c →
    ((digits ≡ []) ⊎ IsCount digits) ⊎ IsNoCount digits → BeginsSo piece
item-counted piece digits rest after b c is e cell (inr bad) = inr (no-item_count is bad)
item-counted piece digits rest after b c is e cell (inl lawful) =
    inl (
      record { count = repeats digits; cell = c },
      after,
      begins-with_item piece digits after b (repeats digits) c (is.whole ∙
          ap (λ r. digits ++ r) e) (lawful, refl) cell,
    )

item-cell : (piece digits rest after : List ℕ) (b : ℕ) (o : Option Cell) → IsCutAtDigits piece digits rest → rest ≡ b ∷ after → cell_of b ≡ o → BeginsSo piece
item-cell piece digits rest after b None is e cell = inr (no-item_cell b after is e cell)
item-cell piece digits rest after b (Some c) is e cell = item-counted piece digits rest after b c is e cell (count_or_not digits is.decimal)

item-rest : (piece digits rest : List ℕ) → IsCutAtDigits piece digits rest → BeginsSo piece
item-rest piece digits [] is = inr (no-item_empty is refl)
item-rest piece digits (b ∷ after) is = item-cell piece digits (b ∷ after) after b (cell_of b) is refl refl

decide-item : (piece : List ℕ) → BeginsSo piece
decide-item piece = item-rest piece _ _ (cut-at_digits piece (take (prefix_len is_ascii_digit piece) piece) (drop (prefix_len is_ascii_digit piece) piece)
    (prefix_len is_ascii_digit piece) refl refl refl)

decide-first : (fuel : ℕ) (piece : List ℕ) → length piece ≤ suc fuel → 0 < length piece →
    ((rest : List ℕ) → length rest ≤ fuel → ((row : List Cell) × IsRow rest row) ⊎ ((row : List Cell) → ¬ (IsRow rest row))) → BeginsSo piece →
    ((row : List Cell) × IsRow piece row) ⊎ ((row : List Cell) → ¬ (IsRow piece row))
decide-first fuel piece le some decide (inr none) = inr (λ row is. let l = no-row is none in omega arith)
decide-first fuel piece le some decide (inl first) =
    let run = first.0 in let rest = first.1 in let item = first.2.0 in let is = first.2.1 in let e = first.2.2 in
    let bytes = item-some is in let l = ap length e in let m = length-append item rest in
    ⊎_elim
    (λ row. inl (
      replicate run.count run.cell ++ row.0,
      subst (λ p. IsRow p (replicate run.count run.cell ++ row.0)) (sym e) (more item rest (replicate run.count run.cell) row.0 is row.1),
    ))
    (λ none. inr (λ row whole. let left = row-rest whole item rest (replicate run.count run.cell) is e in none left.0 left.1))
    (decide rest (omega arith))

-- a piece is a row or it is none; fuel is at least the number of bytes
decide-row : (fuel : ℕ) (piece : List ℕ) → length piece ≤ fuel → ((row : List Cell) × IsRow piece row) ⊎ ((row : List Cell) → ¬ (IsRow piece row))
decide-row fuel [] le = inl ([], done)
decide-row zero (b ∷ piece) le = absurd (omega arith)
decide-row (suc fuel) (b ∷ piece) le = decide-first fuel (b ∷ piece) le (omega arith) (λ rest less. decide-row fuel rest less) (decide-item (b ∷ piece))

no-first : (piece : List ℕ) (pieces : List (List ℕ)) (rows : List (List Cell)) → AllZip IsRow (piece ∷ pieces) rows →
    ((row : List Cell) → ¬ (IsRow piece row)) → ⊥
no-first piece pieces [] is none = is
no-first piece pieces (row ∷ rows) is none = none row is.0

no-rest : (piece : List ℕ) (pieces : List (List ℕ)) (rows : List (List Cell)) → AllZip IsRow (piece ∷ pieces) rows →
    ((rows : List (List Cell)) → ¬ (AllZip IsRow pieces rows)) → ⊥
no-rest piece pieces [] is none = is
no-rest piece pieces (row ∷ rows) is none = none rows is.1

pieces-cons : (piece : List ℕ) (pieces : List (List ℕ)) → ((row : List Cell) × IsRow piece row) ⊎ ((row : List Cell) → ¬ (IsRow piece row)) →
    ((rows : List (List Cell)) × AllZip IsRow pieces rows) ⊎ ((rows : List (List Cell)) → ¬ (AllZip IsRow pieces rows)) →
    ((rows : List (List Cell)) × AllZip IsRow (piece ∷ pieces) rows) ⊎ ((rows : List (List Cell)) → ¬ (AllZip IsRow (piece ∷ pieces) rows))
pieces-cons piece pieces (inl row) (inl rows) = inl (row.0 ∷ rows.0, (row.1, rows.1))
pieces-cons piece pieces (inr none) rows = inr (λ others is. no-first piece pieces others is none)
pieces-cons piece pieces (inl row) (inr none) = inr (λ others is. no-rest piece pieces others is none)

decide-pieces : (pieces : List (List ℕ)) → ((rows : List (List Cell)) × AllZip IsRow pieces rows) ⊎ ((rows : List (List Cell)) → ¬ (AllZip IsRow pieces rows))
decide-pieces [] = inl ([], tt)
decide-pieces (piece ∷ pieces) = pieces-cons piece pieces (decide-row (length piece) piece (omega arith)) (decide-pieces pieces)

has-cons : (w x : ℕ) (xs : List ℕ) (t : Bool) → (x == w) ≡ t → Contains xs w ⊎ ¬ (Has w xs) → Contains (x ∷ xs) w ⊎ ¬ (Has w (x ∷ xs))
has-cons w x xs true e rest = inl (0, omega arith, eqb-true x w e)
has-cons w x xs false e (inl has) = inl (suc has.0, (let l = has.1 in omega arith), has.2)
has-cons w x xs false e (inr none) = inr (λ h. ⊎_elim (λ same. false≢true (sym e ∙ eq-eqb x w same)) (λ l. none l) h)

decide-has : (w : ℕ) (xs : List ℕ) → Contains xs w ⊎ ¬ (Has w xs)
decide-has w [] = inr (λ h. h)
decide-has w (x ∷ xs) = has-cons w x xs (x == w) refl (decide-has w xs)

-- a line is a row line or a text line
pub decide-line : (line : List ℕ) → ((rows : List (List Cell)) × IsRowLine line rows) ⊎ IsTextLine line
decide-line line = ⊎_elim
    (λ rows. ⊎_elim (λ wall. inl (rows.0, record { pieces = rows.1; wall = wall })) (λ none. inr (λ others is. none (has-contains wall_byte line is.wall)))
    (decide-has wall_byte line))
    (λ none. inr (λ rows is. none rows is.pieces))
    (decide-pieces (some_of (slice_split (λ b. b == bar) line)))
