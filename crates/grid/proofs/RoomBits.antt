-- The room mask: its words bit by bit, and its squares word by word.
use Rattle.std.proofs.Common.{◌≡◌, ℕ, ◌+◌, ◌*◌, ◌/◌, ◌%◌, ◌<◌, ◌≤◌, Bool, true, false, cond, eqb, ◌&&◌, ◌↔◌, List, [], ◌∷◌, ◌++◌, length, get_or, inl, inr}
use Rattle.std.proofs.Common.{refl, sym, ap, subst, ◌∙◌, arith}
use Rattle.std.proofs.Math.Seq.{get_or-append_seam}
use Rattle.std.proofs.lemmas.Bool.{eq-eqb, eqb-true, ne_eqb, cases_eq, cases_lt, and_left, and_from, and_right, cond-true, cond-false, true≢false}
use Rattle.std.proofs.lemmas.List.{get_or_past, get_or_append_left}
use Rattle.std.proofs.lemmas.Nat.Bits.{bit_at-zero}
use Rattle.std.specs.Int.{bit_at}
use Rattle.grid.specs.declared.masks.TheConstants.{WORD_BITS}
use Rattle.grid.specs.Board.{Board}
use Rattle.grid.specs.Lawful.{IsLevel, InRoom}
use Rattle.grid.specs.Masks.{has_bit}
use Rattle.grid.proofs.lemmas.Rooms.{room_floor}
use Rattle.grid.proofs.lemmas.Steps.{inside_grid}

-- a bit that is set where its square is of the room
pub room_bit : (board : Board) (first bit word new : ℕ) (set : Bool) → ((j : ℕ) → (bit_at word j ≡ 1) ↔ ((j < bit) × InRoom board (first + j))) → (set ≡ true) ↔
    InRoom board (first + bit) → ((j : ℕ) → bit_at new j ≡ cond (set && eqb j bit) 1 (bit_at word j)) → (j : ℕ) → (bit_at new j ≡ 1) ↔
    ((j < bit + 1) × InRoom board (first + j))
room_bit board first bit word new set before told more j = elim (cases_eq j bit) [
  | inl same ↦ at_it same set refl
  | inr other ↦
      (let kept : bit_at new j ≡ bit_at word j = more j ∙ cond-false (set && eqb j bit) 1 (bit_at word j) (and_right set (eqb j bit) (ne_eqb j bit other)) in
      (λ h. (let p = (before j).0 (sym kept ∙ h) in (omega (arith, p.0), p.1)), λ p. kept ∙ (before j).1 (omega (arith, p.0, other), p.1)))
]
  where
    at_it : j ≡ bit → (b : Bool) → set ≡ b → (bit_at new j ≡ 1) ↔ ((j < bit + 1) × InRoom board (first + j))
    at_it same true e = (
      λ h. (omega (arith, same), subst (λ (x : ℕ). InRoom board (first + x)) (sym same) (told.0 e)),
      λ p. more j ∙ cond-true (set && eqb j bit) 1 (bit_at word j) (and_from set (eqb j bit) e (eq-eqb j bit same)),
    )
    at_it same false e =
        (let kept : bit_at new j ≡ bit_at word j = more j ∙ cond-false (set && eqb j bit) 1 (bit_at word j) (and_left set (eqb j bit) e) in (
          λ h. (let p = (before j).0 (sym kept ∙ h) in absurd (omega (arith, p.0, same))),
          λ p. absurd (true≢false (sym (told.1 (subst (λ (x : ℕ). InRoom board (first + x)) same p.1)) ∙ e)),
        ))

-- a bit of a word that comes after others is a bit of the set
word_more : (words : List ℕ) (w q : ℕ) → q / WORD_BITS ≡ length words → has_bit (words ++ w ∷ []) q ≡ eqb (bit_at w (q % WORD_BITS)) 1
unfolding has_bit
word_more words w q here =
    ap (λ k. eqb (bit_at (get_or (words ++ w ∷ []) k 0) (q % WORD_BITS)) 1) here ∙ ap (λ x. eqb (bit_at x (q % WORD_BITS)) 1) (get_or-append_seam words w [] 0)

-- the bits of the words before it stay
word_kept : (words : List ℕ) (w q : ℕ) → q / WORD_BITS < length words → has_bit (words ++ w ∷ []) q ≡ has_bit words q
unfolding has_bit
word_kept words w q before = ap (λ x. eqb (bit_at x (q % WORD_BITS)) 1) (get_or_append_left words (w ∷ []) 0 (q / WORD_BITS) before)

word_past : (words : List ℕ) (q : ℕ) → length words ≤ q / WORD_BITS → has_bit words q ≡ false
unfolding has_bit
word_past words q past = ap (λ x. eqb (bit_at x (q % WORD_BITS)) 1) (get_or_past words (q / WORD_BITS) 0 past) ∙ ap (λ x. eqb x 1) (bit_at-zero (q % WORD_BITS))

-- one word more
pub room_more : (board : Board) (words more : List ℕ) (w place : ℕ) → length words ≡ place → more ≡ words ++ w ∷ [] →
    ((q : ℕ) → q < WORD_BITS * place → (has_bit words q ≡ true) ↔ InRoom board q) →
    ((j : ℕ) → j < WORD_BITS → (bit_at w j ≡ 1) ↔ InRoom board (WORD_BITS * place + j)) → (q : ℕ) → q < WORD_BITS * (place + 1) → (has_bit more q ≡ true) ↔
    InRoom board q
room_more board words more w place size items before now q lt = subst (λ (ws : List ℕ). (has_bit ws q ≡ true) ↔
    InRoom board q) (sym items) (elim (cases_eq (q / WORD_BITS) place) [
      | inl same ↦
          (let at : WORD_BITS * place + q % WORD_BITS ≡ q = omega (arith, same) in
          let low : q % WORD_BITS < WORD_BITS = omega arith in
          let bit = word_more words w q (same ∙ sym size) in
          let t = now (q % WORD_BITS) low in (
            λ h. subst (InRoom board) at (t.0 (eqb-true (bit_at w (q % WORD_BITS)) 1 (sym bit ∙ h))),
            λ r. bit ∙
                eq-eqb (bit_at w (q % WORD_BITS)) 1 (t.1 (subst (InRoom board) (sym at) r)),
          ))
      | inr other ↦
          (let kept = word_kept words w q (omega (arith, other, size, lt)) in
          let t = before q (omega (arith, other, lt)) in
          (λ h. t.0 (sym kept ∙ h), λ r. kept ∙ t.1 r))
    ])

-- all words
pub room_all : (board : Board) (words : List ℕ) → IsLevel board → length board.cells ≤ WORD_BITS * length words →
    ((q : ℕ) → q < WORD_BITS * length words → (has_bit words q ≡ true) ↔ InRoom board q) → (q : ℕ) → (has_bit words q ≡ true) ↔ InRoom board q
room_all board words level all each q = elim (cases_lt q (WORD_BITS * length words)) [
  | inl lt ↦ each q lt
  | inr ge ↦
      (let past : length words ≤ q / WORD_BITS = omega (arith, ge) in (
        λ h. absurd (true≢false (sym h ∙ word_past words q past)),
        λ r. absurd (let lt = inside_grid board q (room_floor board level r) in
            omega (arith, lt, all, ge)),
      ))
]
