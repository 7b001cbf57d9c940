-- What words of bits tell of the squares where a pushed box may be held.
use Rattle.std.proofs.Common.{◌≡◌, ◌≢◌, ◌<◌, ◌≤◌, ◌+◌, ◌*◌, ◌⊎◌, ℕ, true, false, List, [], ◌∷◌, ◌++◌, length, get_or}
use Rattle.std.proofs.Common.{◌/◌, ◌%◌, ◌^◌, eqb, refl, sym, ap, subst, ◌∙◌, inl, inr, arith}
use Rattle.std.specs.Int.RustNames.{bit_and, bit_or}
use Rattle.std.proofs.lemmas.Bool.{and_cases, false≢true, or_parts}
use Rattle.std.proofs.lemmas.Option.{slice_get_within, slice_get-get_or}
use Rattle.grid.specs.declared.dir.Dir.{Dir}
use Rattle.grid.specs.declared.dir.Dir.TheVariants.{D, L, R, U}
use Rattle.grid.specs.declared.masks.TheConstants.{WORD_BITS}
use Rattle.grid.specs.Board.{Board, next, opposite}
use Rattle.grid.specs.Masks.{has_bit}
use Rattle.grid.specs.Squares.{Squares, contains, insert, remove}
use Rattle.grid.proofs.lemmas.Squares.{contains-insert_cases, contains-remove_parts}
use Rattle.grid.proofs.lemmas.Directions.{next_right, next_left, next_below, next_above}
use Rattle.area.specs.Words.{squares_of, word_bit}
use Rattle.area.proofs.lemmas.PushOrder.{pushed_at}
use Rattle.area.proofs.lemmas.WordBits.{word_bit-and, word_bit-or, word_bit_tested, has_bit-at, square_parts}
use Rattle.area.proofs.lemmas.WordSets.{contains-squares_of}
use Rattle.doom.specs.declared.dangers.Danger.{Danger}
use Rattle.doom.specs.Deadlocks.{IsDead, IsHeld}
use Rattle.doom.specs.Loose.{IsLoose}
use Rattle.doom.specs.inside.Dangers.{AreDangers, IsSpared, TellsDanger, danger_word}
use Rattle.doom.specs.inside.Holding.{IsFast, AreFast, IsApart}
use Rattle.doom.proofs.Beside.{held_cases}
use Rattle.doom.proofs.Holding.{apart_across, apart_along, other_beside}
use Rattle.doom.proofs.lemmas.Loose.{live_inside}

-- a box that came from another square is held on an axis, if nothing holds it fast there, only by a
-- box beside it that stood there before
not_held : (board : Board) (boxes : Squares) (from q : ℕ) (d : Dir) → ¬ (IsFast board q d) → next board q d ≢ q
    → next board q (opposite d) ≢ q
    → (from ≢ next board q d → contains boxes (next board q d) ≡ true → ⊥) →
    (from ≢ next board q (opposite d) → contains boxes (next board q (opposite d)) ≡ true → ⊥)
    → ¬ (IsHeld board (insert (remove boxes from) q) q d)
not_held board boxes from q d loose other_a other_b ahead behind held =
    grind (arith, held_cases, contains-insert_cases, contains-remove_parts)

-- so on an axis where the sets of what holds it fast and of the boxes have nothing
axis_free : (board : Board) (words fast : List ℕ) (from q by : ℕ) (d : Dir) → AreFast board d fast → IsApart board d by
    → 1 ≤ by
    → ¬ (IsDead board q) → has_bit fast q ≡ false → (from ≢ q + by → has_bit words (q + by) ≡ false) →
    ((i : ℕ) → i + by ≡ q → from ≢ i → has_bit words i ≡ false)
    → ¬ (IsHeld board (insert (remove (squares_of words) from) q) q d)
axis_free board words fast from q by d are apart some live none front back =
    not_held board (squares_of words) from q d loose others.0 others.1
    (λ ne there. false≢true (sym (front (λ e. ne (e ∙ sym sides.0))) ∙ (sym (contains-squares_of words (q + by)) ∙
    (ap (contains (squares_of words)) (sym sides.0) ∙ there))))
    (λ ne there. false≢true (sym (back (next board q (opposite d)) sides.1 ne)
    ∙ (sym (contains-squares_of words (next board q (opposite d))) ∙ there)))
  where
    loose : ¬ (IsFast board q d)
    loose f = false≢true (sym none ∙ (are.right q (live_inside board q live)).1 f)

    sides : (next board q d ≡ q + by) × (next board q (opposite d) + by ≡ q)
    sides = apart q loose

    others : (next board q d ≢ q) × (next board q (opposite d) ≢ q)
    others = other_beside board q d by some apart loose

-- where neither of two words has a bit, or where one of two has none
neither : (a b j : ℕ) → word_bit (bit_or a b) j ≡ false → (word_bit a j ≡ false) × (word_bit b j ≡ false)
neither a b j e = or_parts (word_bit a j) (word_bit b j) (sym (word_bit-or a b j) ∙ e)

not_both : (a b j : ℕ) → word_bit (bit_and a b) j ≡ false → (word_bit a j ≡ false) ⊎ (word_bit b j ≡ false)
not_both a b j e = and_cases (word_bit a j) (word_bit b j) (sym (word_bit-and a b j) ∙ e)

module _ (board : Board) (across along words : List ℕ) (place j left right up down : ℕ)
    (fast_r : AreFast board R across) (fast_d : AreFast board D along)
    (columns : 1 ≤ board.cols) (lt : j < WORD_BITS)
    (on_left : (i : ℕ) → i + 1 ≡ WORD_BITS * place + j → word_bit left j ≡ has_bit words i)
    (on_right : word_bit right j ≡ has_bit words (WORD_BITS * place + j + 1))
    (on_up : (i : ℕ) → i + board.cols ≡ WORD_BITS * place + j → word_bit up j ≡ has_bit words i)
    (on_down : word_bit down j ≡ has_bit words (WORD_BITS * place + j + board.cols)) where
  -- a box is not held across where no bit says so, but for where the pushed one stood
  free_across : (from : ℕ) → ¬ (IsDead board (WORD_BITS * place + j)) → word_bit (get_or across place 0) j ≡ false →
      ((word_bit left j ≡ false) ⊎ (from + 1 ≡ WORD_BITS * place + j))
      → ((word_bit right j ≡ false) ⊎ (from ≡ WORD_BITS * place + j + 1))
      → IsLoose board (insert (remove (squares_of words) from) (WORD_BITS * place + j)) (WORD_BITS * place + j)
  free_across from live none before after = record {
    live = live;
    free = λ blocked. axis_free board words across from (WORD_BITS * place + j) 1 R fast_r (apart_across board)
        (omega arith) live
        (has_bit-at across place j lt ∙ none)
        (λ ne. elim after [ inl e ↦ sym on_right ∙ e | inr e ↦ absurd (ne e) ])
        (λ i h ne. elim before [ inl e ↦ sym (on_left i h) ∙ e | inr e ↦ absurd (ne (omega (arith, h, e))) ])
        (blocked R);
  }

  -- nor along
  free_along : (from : ℕ) → ¬ (IsDead board (WORD_BITS * place + j)) → word_bit (get_or along place 0) j ≡ false →
      ((word_bit up j ≡ false) ⊎ (from + board.cols ≡ WORD_BITS * place + j))
      → ((word_bit down j ≡ false) ⊎ (from ≡ WORD_BITS * place + j + board.cols))
      → IsLoose board (insert (remove (squares_of words) from) (WORD_BITS * place + j)) (WORD_BITS * place + j)
  free_along from live none before after = record {
    live = live;
    free = λ blocked. axis_free board words along from (WORD_BITS * place + j) board.cols D fast_d
        (apart_along board board.cols refl) columns live
        (has_bit-at along place j lt ∙ none)
        (λ ne. elim after [ inl e ↦ sym on_down ∙ e | inr e ↦ absurd (ne e) ])
        (λ i h ne. elim before [ inl e ↦ sym (on_up i h) ∙ e | inr e ↦ absurd (ne (omega (arith, h, e))) ]) (blocked D);
  }

  abbrev pub beside_word : ℕ
  beside_word = bit_or (bit_or (get_or across place 0) left) right

  abbrev pub over_word : ℕ
  over_word = bit_or (bit_or (get_or along place 0) up) down

  abbrev pub danger : Danger
  danger = record {
    d = bit_and beside_word (bit_or (get_or along place 0) down);
    l = bit_and over_word (bit_or (get_or across place 0) left);
    r = bit_and over_word (bit_or (get_or across place 0) right);
    u = bit_and beside_word (bit_or (get_or along place 0) up);
  }

  none_beside : (from : ℕ) → ¬ (IsDead board (WORD_BITS * place + j)) → word_bit beside_word j ≡ false →
      IsLoose board (insert (remove (squares_of words) from) (WORD_BITS * place + j)) (WORD_BITS * place + j)
  none_beside from live e =
      let p = neither (bit_or (get_or across place 0) left) right j e in
      let q = neither (get_or across place 0) left j p.0 in
      free_across from live q.0 (inl q.1) (inl p.1)

  none_over : (from : ℕ) → ¬ (IsDead board (WORD_BITS * place + j)) → word_bit over_word j ≡ false →
      IsLoose board (insert (remove (squares_of words) from) (WORD_BITS * place + j)) (WORD_BITS * place + j)
  none_over from live e =
      let p = neither (bit_or (get_or along place 0) up) down j e in
      let q = neither (get_or along place 0) up j p.0 in
      free_along from live q.0 (inl q.1) (inl p.1)

  -- a square is of the grid where it is not dead, so the step onto it is of so many numbers
  stepped : (from : ℕ) (d : Dir) → WORD_BITS * place + j ≡ next board from d → ¬ (IsDead board (WORD_BITS * place + j))
      → next board from d < length board.cells
  stepped from d e live = subst (λ (x : ℕ). x < length board.cells) e (live_inside board (WORD_BITS * place + j) live)

  pub spared : (d : Dir) → word_bit (danger_word d danger) j ≡ false
      → IsSpared board (squares_of words) d (WORD_BITS * place + j)
  spared D none from e inside live = elim (not_both beside_word (bit_or (get_or along place 0) down) j none) [
    | inl b ↦ none_beside from live b
    | inr b ↦ (let p = neither (get_or along place 0) down j b in
        let f = next_below board from (stepped from D e live) in
        free_along from live p.0 (inr (omega (arith, e, f))) (inl p.1))
  ]
  spared L none from e inside live = elim (not_both over_word (bit_or (get_or across place 0) left) j none) [
    | inl b ↦ none_over from live b
    | inr b ↦ (let p = neither (get_or across place 0) left j b in
        let f = next_left board from (stepped from L e live) in
        free_across from live p.0 (inl p.1) (inr (omega (arith, e, f))))
  ]
  spared R none from e inside live = elim (not_both over_word (bit_or (get_or across place 0) right) j none) [
    | inl b ↦ none_over from live b
    | inr b ↦ (let p = neither (get_or across place 0) right j b in
        let f = next_right board from (stepped from R e live) in
        free_across from live p.0 (inr (omega (arith, e, f))) (inl p.1))
  ]
  spared U none from e inside live = elim (not_both beside_word (bit_or (get_or along place 0) up) j none) [
    | inl b ↦ none_beside from live b
    | inr b ↦ (let p = neither (get_or along place 0) up j b in let f = next_above board from (stepped from U e live) in
        free_along from live p.0 (inl p.1) (inr (omega (arith, e, f))))
  ]

-- ---- words in turn

pub dangers_none : (board : Board) (boxes : Squares) (words : List Danger) → length words ≡ 0
    → AreDangers board boxes words
dangers_none board boxes words empty place danger at =
    let lt = slice_get_within words place danger at in absurd (omega (arith, lt, empty))

pub dangers_more : (board : Board) (boxes : Squares) (words : List Danger) (new : Danger) → AreDangers board boxes words
    → TellsDanger board boxes (length words) new → AreDangers board boxes (words ++ new ∷ [])
dangers_more board boxes words new before here place danger at = elim (pushed_at words new danger place at) [
  | inl h ↦ before place danger h
  | inr h ↦ subst (λ (k : ℕ). TellsDanger board boxes k danger) (sym h.0)
      (subst (λ (x : Danger). TellsDanger board boxes (length words) x) (sym h.1) here)
]

-- a square whose bit is not set is spared
pub spared_at : (board : Board) (boxes : Squares) (words seen : List Danger) → seen ≡ words
    → (square read : ℕ) (d : Dir) (blank : Danger) (word : ℕ)
    → read ≡ square → read / WORD_BITS < length words → AreDangers board boxes words
    → word ≡ danger_word d (get_or seen (read / WORD_BITS) blank)
    → eqb (bit_and (word / 2 ^ (read % WORD_BITS)) 1) 1 ≡ false → IsSpared board boxes d square
spared_at board boxes words seen same square read d blank word reads inside are told clear =
    let parts = square_parts read in
    let danger : Danger = get_or words (read / WORD_BITS) blank in
    let at = slice_get-get_or words (read / WORD_BITS) blank inside in
    let bit : word_bit (danger_word d danger) (read % WORD_BITS) ≡ false =
    ap (λ (w : ℕ). word_bit w (read % WORD_BITS))
    (sym (told ∙ ap (λ (ws : List Danger). danger_word d (get_or ws (read / WORD_BITS) blank)) same)) ∙
    (sym (word_bit_tested word (read % WORD_BITS)) ∙ clear) in
    subst (IsSpared board boxes d) (parts.0 ∙ reads) (are (read / WORD_BITS) danger at d (read % WORD_BITS) parts.1 bit)
