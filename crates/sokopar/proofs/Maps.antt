-- The marks of squares, and rows of them.
use Rattle.std.proofs.Common.{◌≡◌, ℕ, suc, ◌+◌, ◌-◌, ◌<◌, ◌≤◌, min, Bool, true, false, ◌⊎◌, subst, ◌==◌, List, [], ◌∷◌, ◌++◌, length, take, drop, flat_map}
use Rattle.std.proofs.Common.{slice_index, refl, sym, ◌∙◌, ap, arith, inl, inr, length-append, append_assoc}
use Rattle.std.proofs.lemmas.List.{get_or_append_left, take_min, drop_min}
use Rattle.std.proofs.Math.Seq.{get_or-append_seam}
use Rattle.std.proofs.lemmas.Bool.{cases_lt}
use Rattle.grid.specs.Board.{Board}
use Rattle.xsb.specs.Boards.{cut_end, before_rest}
use Rattle.xsb.specs.Written.{rows_from}
use Rattle.sokopar.specs.DeadMap.{IsMark, AreMarks, marked_row}

-- the first squares have their bytes
abbrev pub HaveBytes : (ℕ → ℕ → Type 0) → List ℕ → Type 0
HaveBytes IsByte bytes = (q : ℕ) → q < length bytes → IsByte q (slice_index bytes q)

-- the list grows by the byte of the next square
pub bytes_grow : (IsByte : ℕ → ℕ → Type 0) (bytes : List ℕ) (byte : ℕ) → HaveBytes IsByte bytes → IsByte (length bytes) byte →
    HaveBytes IsByte (bytes ++ byte ∷ [])
bytes_grow IsByte bytes byte have next q below = by_place (cases_lt q (length bytes)) where
  by_place : (q < length bytes) ⊎ (length bytes ≤ q) → IsByte q (slice_index (bytes ++ byte ∷ []) q)
  by_place (inl before) = let e = get_or_append_left bytes (byte ∷ []) 0 q before in rw e (have q before)
  by_place (inr after) =
      let here : q ≡ length bytes = omega (arith, length-append bytes (byte ∷ [])) in
      let P : ℕ → Type 0 = λ p. IsByte p (slice_index (bytes ++ byte ∷ []) p) in
      let e = get_or-append_seam bytes byte [] 0 in
      subst P (sym here) (rw e next)

-- all squares have their marks
pub marks_all : (board : Board) (marks : List ℕ) → length marks ≡ length board.cells → HaveBytes (IsMark board) marks → AreMarks board marks
marks_all board marks count have = record { count = count; each = λ q below. have q (omega arith) }

-- a space at the end is cut off
pub cut_space : (row : List ℕ) (last : ℕ) → last ≡ 32 → cut_end (λ b. b == 32) (row ++ last ∷ []) ≡ cut_end (λ b. b == 32) row
cut_space [] last is = rw is refl
cut_space (b ∷ row) last is = ap (before_rest (b == 32) b) (cut_space row last is)

-- nothing is cut off before what stays
before_some : (cut : Bool) (b : ℕ) (row : List ℕ) (last : ℕ) → before_rest cut b (row ++ last ∷ []) ≡ b ∷ (row ++ last ∷ [])
before_some true b [] last = refl
before_some true b (c ∷ row) last = refl
before_some false b row last = refl

-- any other byte stays
pub cut_other : (row : List ℕ) (last : ℕ) → (last == 32) ≡ false → cut_end (λ b. b == 32) (row ++ last ∷ []) ≡ row ++ last ∷ []
cut_other [] last is = rw is refl
cut_other (b ∷ row) last is = ap (before_rest (b == 32) b) (cut_other row last is) ∙ before_some (b == 32) b row last

-- the rows that are left are one and those after it
map_step : (rows i cols : ℕ) (rest : List ℕ) → i < rows
    → flat_map marked_row (rows_from (rows - i) cols rest) ≡
    marked_row (take (min cols (length rest)) rest) ++ flat_map marked_row (rows_from (rows - (i + 1)) cols (drop (min cols (length rest)) rest))
map_step rows i cols rest below =
    let left : rows - i ≡ suc (rows - (i + 1)) = omega arith in
    let t = take_min cols rest in
    let d = drop_min cols rest in
    rw left (rw t (rw d refl))

-- after the next row the text with the rows that are left is as before
pub map_goes_on : (rows i cols : ℕ) (rest row later text new : List ℕ) → i < rows → row ≡ take (min cols (length rest)) rest →
    later ≡ drop (min cols (length rest)) rest
    → new ≡ text ++ marked_row row → new ++ flat_map marked_row (rows_from (rows - (i + 1)) cols later) ≡
    text ++ flat_map marked_row (rows_from (rows - i) cols rest)
map_goes_on rows i cols rest row later text new below is_row is_later is_new =
    let step = map_step rows i cols rest below in
    rw (is_new, is_later, is_row, step) (append_assoc text (marked_row (take (min cols (length rest)) rest)) _)
