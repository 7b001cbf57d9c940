-- A row line has a wall, so its rows have a column.
use Rattle.std.proofs.Common.{◌≡◌, ℕ, zero, suc, ◌<◌, ◌≤◌, Bool, true, false, cond, ◌==◌, List, [], ◌∷◌, ◌++◌, length, get_or, replicate, flat_map, Contains, Some, refl}
use Rattle.std.proofs.Common.{sym, ap, ◌∙◌, arith, subst, ◌⊎◌, inl, inr, ⊎_elim}
use Rattle.std.specs.List.{AllZip, slice_split, onto_first}
use Rattle.std.specs.Char.{is_ascii_digit}
use Rattle.std.proofs.lemmas.List.{length-replicate}
use Rattle.std.proofs.lemmas.Bool.{false≢true}
use Rattle.grid.specs.declared.cell.Cell.{Cell}
use Rattle.grid.specs.declared.cell.Cell.TheVariants.{Wall}
use Rattle.counts.specs.Counts.{AreDigits}
use Rattle.xsb.specs.inside.Bytes.{bar, wall_byte, cell_of}
use Rattle.xsb.specs.Boards.{cols_of, cut_row, before_rest, is_floor}
use Rattle.xsb.specs.Rows.{IsItem, IsRow, done, more, IsRowLine}
use Rattle.xsb.proofs.FirstItem.{shape-item}
use Rattle.xsb.proofs.RowItems.{item-cells}
use Rattle.xsb.proofs.RowLines.{has_byte-is, some_of}

-- the element stands somewhere in the list
abbrev pub Has : {A : Type 0} → A → List A → Type 0
Has w [] = ⊥
Has w (x ∷ xs) = (x ≡ w) ⊎ Has w xs

has-at : {A : Type 0} (w : A) (xs : List A) (k : ℕ) → k < length xs → get_or xs k w ≡ w → Has w xs
has-at w [] k less e = absurd (omega arith)
has-at w (x ∷ xs) zero less e = inl e
has-at w (x ∷ xs) (suc k) less e = inr (has-at w xs k (omega arith) e)

pub has-contains : {A : Type 0} (w : A) (xs : List A) → Contains xs w → Has w xs
has-contains w xs is = has-at w xs is.0 is.1 is.2

has-append : {A : Type 0} (w : A) (xs ys : List A) → Has w (xs ++ ys) → Has w xs ⊎ Has w ys
has-append w [] ys h = inr h
has-append w (x ∷ xs) ys h = ⊎_elim (λ e. inl (inl e)) (λ l. ⊎_elim (λ a. inl (inr a)) (λ b. inr b) (has-append w xs ys l)) h

pub has-left : {A : Type 0} (w : A) (xs ys : List A) → Has w xs → Has w (xs ++ ys)
has-left w [] ys h = absurd h
has-left w (x ∷ xs) ys h = ⊎_elim (λ e. inl e) (λ l. inr (has-left w xs ys l)) h

pub has-right : {A : Type 0} (w : A) (xs ys : List A) → Has w ys → Has w (xs ++ ys)
has-right w [] ys h = h
has-right w (x ∷ xs) ys h = inr (has-right w xs ys h)

-- some list of the lists has the element
abbrev pub SomeHas : {A : Type 0} → A → List (List A) → Type 0
SomeHas w [] = ⊥
SomeHas w (xs ∷ xss) = Has w xs ⊎ SomeHas w xss

onto-here : (b : ℕ) (parts : List (List ℕ)) → SomeHas b (onto_first b parts)
onto-here b [] = inl (inl refl)
onto-here b (part ∷ parts) = inl (inl refl)

onto-later : (w b : ℕ) (parts : List (List ℕ)) → SomeHas w parts → SomeHas w (onto_first b parts)
onto-later w b [] h = absurd h
onto-later w b (part ∷ parts) h = ⊎_elim (λ l. inl (inr l)) (λ r. inr r) h

split-step : (b : ℕ) (bs : List ℕ) (t : Bool) → (b == bar) ≡ t → (b ≡ wall_byte) ⊎ SomeHas wall_byte (slice_split (λ b. b == bar) bs) →
    SomeHas wall_byte (cond t ([] ∷ slice_split (λ b. b == bar) bs) (onto_first b (slice_split (λ b. b == bar) bs)))
split-step b bs true e h = ⊎_elim (λ is. absurd (let f : (wall_byte == bar) ≡ true = ap (λ c. c == bar) (sym is) ∙ e in false≢true f)) (λ l. inr l) h
split-step b bs false e h =
    ⊎_elim (λ is. subst (λ c. SomeHas c (onto_first b (slice_split (λ b. b == bar) bs))) is (onto-here b (slice_split (λ b. b == bar) bs)))
    (λ l. onto-later wall_byte b (slice_split (λ b. b == bar) bs) l) h

-- a wall of a line is a wall of one of its pieces
split-has : (bs : List ℕ) → Has wall_byte bs → SomeHas wall_byte (slice_split (λ b. b == bar) bs)
split-has [] h = absurd h
split-has (b ∷ bs) h = split-step b bs (b == bar) refl (⊎_elim (λ e. inl e) (λ l. inr (split-has bs l)) h)

some-has : (parts : List (List ℕ)) → SomeHas wall_byte parts → SomeHas wall_byte (some_of parts)
some-has [] h = absurd h
some-has ([] ∷ parts) h = ⊎_elim (λ l. absurd l) (λ r. some-has parts r) h
some-has ((b ∷ part) ∷ parts) h =
    let later = λ (r : SomeHas wall_byte parts). some-has parts r in
    subst (λ t. SomeHas wall_byte (cond t ((b ∷ part) ∷ some_of parts) (some_of parts))) (sym (has_byte-is (b ∷ part) (omega arith)))
    (⊎_elim (λ l. inl l) (λ r. inr (later r)) h)

no-wall-digit : (ds : List ℕ) → AreDigits ds → Has wall_byte ds → ⊥
no-wall-digit [] are h = h
no-wall-digit (d ∷ ds) are h = ⊎_elim (λ e. let f : is_ascii_digit wall_byte ≡ true = ap is_ascii_digit (sym e) ∙ are.0 in
    false≢true f) (λ l. no-wall-digit ds are.1 l) h

has-replicate : (n : ℕ) (c : Cell) → 0 < n → Has c (replicate n c)
has-replicate zero c some = absurd (omega arith)
has-replicate (suc n) c some = inl refl

-- the wall byte of an item stands for walls
item-wall : {item : List ℕ} {cells : List Cell} → IsItem item cells → Has wall_byte item → Has Wall cells
item-wall {item} {cells} is h =
    let s = shape-item is in
    ⊎_elim (λ l. absurd (no-wall-digit s.digits s.decimal l))
    (λ r. ⊎_elim (λ e. let made : Some s.cell ≡ Some Wall = sym s.cell_is ∙ ap cell_of e in
    let wall : s.cell ≡ Wall = cc in
    let some = item-cells is in let n = ap length s.cells_are in let m = length-replicate s.count s.cell in
    subst (λ c. Has Wall c) (sym (s.cells_are ∙ ap (λ c. replicate s.count c) wall)) (has-replicate s.count Wall (omega arith)))
    (λ none. absurd none) r)
    (has-append wall_byte s.digits (s.byte ∷ []) (subst (λ i. Has wall_byte i) s.whole h))

row-wall : {piece : List ℕ} {row : List Cell} → IsRow piece row → Has wall_byte piece → Has Wall row
row-wall done h = h
row-wall (more item bytes cells row first rest) h =
    ⊎_elim (λ l. has-left Wall cells row (item-wall first l)) (λ r. has-right Wall cells row (row-wall rest r)) (has-append wall_byte item bytes h)

before-wall : {A : Type 0} (t : Bool) (x : A) (ys : List A) → 0 < length ys → 0 < length (before_rest t x ys)
before-wall true x [] some = some
before-wall true x (y ∷ ys) some = omega arith
before-wall false x ys some = omega arith

-- a row with a wall is not all floor
pub cut-wall : (row : List Cell) → Has Wall row → 1 ≤ length (cut_row row)
cut-wall [] h = absurd h
cut-wall (c ∷ row) h = ⊎_elim
    (λ e. let other : is_floor c ≡ false = ap is_floor e in
    let l = ap length (ap (λ t. before_rest t c (cut_row row)) other) in omega arith)
    (λ l. let some = cut-wall row l in let b = before-wall (is_floor c) c (cut_row row) (omega arith) in omega arith) h

rows-wall : (pieces : List (List ℕ)) (rows : List (List Cell)) → AllZip IsRow pieces rows → SomeHas wall_byte pieces
    → SomeHas Wall rows
rows-wall [] rows zip h = absurd h
rows-wall (p ∷ pieces) [] zip h = absurd zip
rows-wall (p ∷ pieces) (row ∷ rows) zip h =
    ⊎_elim (λ l. inl (row-wall zip.0 l)) (λ r. inr (rows-wall pieces rows zip.1 r)) h

-- one of the rows of a row line has a wall
line-wall : {line : List ℕ} {rows : List (List Cell)} → IsRowLine line rows → SomeHas Wall rows
line-wall {line} {rows} is =
    rows-wall (some_of (slice_split (λ b. b == bar) line)) rows is.pieces
    (some-has (slice_split (λ b. b == bar) line) (split-has line (has-contains wall_byte line is.wall)))

some-left : {A : Type 0} (w : A) (xs ys : List (List A)) → SomeHas w xs → SomeHas w (xs ++ ys)
some-left w [] ys h = absurd h
some-left w (x ∷ xs) ys h = ⊎_elim (λ l. inl l) (λ r. inr (some-left w xs ys r)) h

-- one of the rows of row lines has a wall
pub wall-lines : (lines : List (List ℕ)) (rows : List (List (List Cell))) → 0 < length lines → AllZip IsRowLine lines rows
    → SomeHas Wall (flat_map (λ r. r) rows)
wall-lines [] rows some each = absurd (omega arith)
wall-lines (line ∷ lines) [] some each = absurd each
wall-lines (line ∷ lines) (r ∷ rows) some each = some-left Wall r (flat_map (λ r. r) rows) (line-wall each.0)

-- rows with a wall have a column
pub cols_of-wall : (rows : List (List Cell)) → SomeHas Wall rows → 1 ≤ cols_of rows
cols_of-wall [] h = absurd h
cols_of-wall (row ∷ rows) h = ⊎_elim
    (λ l. let w = cut-wall row l in omega arith)
    (λ r. let w = cols_of-wall rows r in omega arith) h
