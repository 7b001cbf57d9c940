-- Laws of the four directions.
use Rattle.std.proofs.Common.{◌≡◌, ℕ, zero, suc, ◌+◌, ◌-◌, ◌%◌, ◌<◌, Bool, true, false, eqb, ltb, ◌&&◌, [], ◌∷◌, length}
use Rattle.std.proofs.Common.{◌⊎◌, inl, inr, get_or, refl, arith}
use Rattle.std.proofs.Math.Nat.{zero-mod}
use Rattle.std.proofs.lemmas.Bool.{and_parts, cases_lt, cond_both, eqb-false, ltb-false}
use Rattle.grid.specs.declared.dir.Dir.{Dir}
use Rattle.grid.specs.declared.dir.Dir.TheVariants.{D, L, R, U}
use Rattle.grid.specs.Board.{Board, dir_number, next}

-- ---- numbers

-- directions with equal numbers are equal
pub dir_same : (d e : Dir) → dir_number d ≡ dir_number e → d ≡ e
dir_same D D h = refl
dir_same L L h = refl
dir_same R R h = refl
dir_same U U h = refl
dir_same d e h = absurd (omega arith)

-- a direction's number is less than four
pub dir_number-lt : (d : Dir) → dir_number d < 4
dir_number-lt D = omega arith
dir_number-lt L = omega arith
dir_number-lt R = omega arith
dir_number-lt U = omega arith

-- the directions below the next number are those below this one, and the one with this number
pub more_dirs : (seen : ℕ) (d e : Dir) → dir_number d ≡ seen → dir_number e < suc seen → (dir_number e < seen) ⊎ (d ≡ e)
more_dirs seen d e at lt = elim (cases_lt (dir_number e) seen) [
  | inl less ↦ inl less
  | inr more ↦ inr (dir_same d e (omega arith))
]

-- the list of all directions has each at its number
pub dir_at : (i : ℕ) → i < 4 → dir_number (get_or (D ∷ L ∷ R ∷ U ∷ []) i D) ≡ i
dir_at zero lt = refl
dir_at (suc zero) lt = refl
dir_at (suc (suc zero)) lt = refl
dir_at (suc (suc (suc zero))) lt = refl
dir_at (suc (suc (suc (suc n)))) lt = absurd (omega arith)

-- ---- all four

-- what holds of the four directions holds of each
pub each_way : (P : Dir → Type 0) → P D → P L → P R → P U → (d : Dir) → P d
each_way P down left right up D = down
each_way P down left right up L = left
each_way P down left right up R = right
each_way P down left right up U = up

-- the same, from four tests that all pass
pub each_test : (P : Dir → Type 0) (down left right up : Bool) → (down ≡ true → P D) → (left ≡ true → P L)
    → (right ≡ true → P R) → (up ≡ true → P U) → (((down && left) && right) && up) ≡ true → (d : Dir) → P d
each_test P down left right up in_down in_left in_right in_up all =
    let last = and_parts ((down && left) && right) up all in
    let third = and_parts (down && left) right last.0 in
    let first = and_parts down left third.0 in
    each_way P (in_down first.0) (in_left first.1) (in_right third.1) (in_up last.1)

-- ---- by how much the number of the next square differs

-- what is not in the first column is not the first square
pub not_first : (cols q : ℕ) → eqb (q % cols) 0 ≡ false → suc (q - 1) ≡ q
not_first cols zero test = absurd (eqb-false (zero % cols) 0 test (zero-mod cols))
not_first cols (suc q) test = omega arith

pub next_left : (board : Board) (q : ℕ) → next board q L < length board.cells → next board q L + 1 ≡ q
unfolding next
next_left board q = cond_both (eqb (q % board.cols) 0) (length board.cells) (q - 1)
    (λ (x : ℕ). x < length board.cells → x + 1 ≡ q) (λ e lt. absurd (omega arith))
    (λ e lt. omega (arith, not_first board.cols q e))

pub next_right : (board : Board) (q : ℕ) → next board q R < length board.cells → next board q R ≡ q + 1
unfolding next
next_right board q = cond_both (eqb (suc q % board.cols) 0) (length board.cells) (suc q)
    (λ (x : ℕ). x < length board.cells → x ≡ q + 1) (λ e lt. absurd (omega arith)) (λ e lt. omega arith)

pub next_above : (board : Board) (q : ℕ) → next board q U < length board.cells → next board q U + board.cols ≡ q
unfolding next
next_above board q = cond_both (ltb q board.cols) (length board.cells) (q - board.cols)
    (λ (x : ℕ). x < length board.cells → x + board.cols ≡ q) (λ e lt. absurd (omega arith))
    (λ e lt. (let le = ltb-false q board.cols e in omega arith))

pub next_below : (board : Board) (q : ℕ) → next board q D < length board.cells → next board q D ≡ q + board.cols
unfolding next
next_below board q = cond_both (ltb (q + board.cols) (length board.cells)) (q + board.cols) (length board.cells)
    (λ (x : ℕ). x < length board.cells → x ≡ q + board.cols) (λ e lt. refl) (λ e lt. absurd (omega arith))
