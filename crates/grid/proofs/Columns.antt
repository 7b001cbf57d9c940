-- The column of the next square, and the neighbours of one square more.
use Rattle.std.proofs.Common.{◌≡◌, ℕ, suc, ◌+◌, ◌%◌, ◌<◌, ◌≤◌, List, [], ◌∷◌, ◌++◌, length, get_or, inl, inr, sym, ap, ◌∙◌, arith}
use Rattle.std.proofs.Math.Nat.{suc-mod, mod_self, mod-lt, mod-eq_of_lt}
use Rattle.std.proofs.Math.Seq.{get_or-append_seam}
use Rattle.std.proofs.lemmas.Bool.{cases_lt}
use Rattle.std.proofs.lemmas.List.{get_or_append_left}
use Rattle.grid.specs.declared.around.Around.{Around}
use Rattle.grid.specs.Board.{Board}
use Rattle.grid.specs.inside.AroundView.{around_of}

-- after the last column comes the first one
pub next_row : (q cols column : ℕ) → column ≡ q % cols → column + 1 ≡ cols → suc q % cols ≡ 0
next_row q cols column here last =
    let whole : suc (q % cols) ≡ cols = omega (arith, here, last) in
    suc-mod q cols ∙ (ap (λ k. k % cols) whole ∙ mod_self cols)

-- and after each other one the one to its right
pub next_column : (q cols column : ℕ) → 1 ≤ cols → column ≡ q % cols → (column + 1 ≡ cols → ⊥) → suc q % cols ≡ column + 1
next_column q cols column some here more =
    let low : q % cols < cols = mod-lt q (omega (arith, some)) in
    let less : suc (q % cols) < cols = omega (arith, here, more, low) in
    suc-mod q cols ∙ (mod-eq_of_lt less ∙ omega (arith, here))

-- with the neighbours of the next square behind them, the neighbours of each square up to it are listed
pub one_more : (board : Board) (listed more : List Around) (k : ℕ) (last : Around) → length listed ≡ k
    → ((q : ℕ) (e : Around) → q < k → get_or listed q e ≡ around_of board q) → last ≡ around_of board k → more ≡ listed ++ last ∷ []
    → (q : ℕ) (e : Around) → q < k + 1 → get_or more q e ≡ around_of board q
one_more board listed more k last size each is items q e lt = elim (cases_lt q k) [
  | inl before ↦ ap (λ xs. get_or xs q e) items ∙ (get_or_append_left listed (last ∷ []) e q (omega (arith, before, size)) ∙ each q e before)
  | inr ge ↦
      let same : q ≡ length listed = omega (arith, lt, ge, size) in
      ap (λ xs. get_or xs q e) items ∙
      (ap (λ i. get_or (listed ++ last ∷ []) i e) same ∙ (get_or-append_seam listed last [] e ∙ (is ∙ ap (around_of board) (sym size ∙ sym same))))
]
