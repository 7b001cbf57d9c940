-- A square takes another's place in a rising list: the squares between move by one place.
use Rattle.std.proofs.Common.{◌≡◌, ℕ, zero, suc, ◌+◌, ◌-◌, ◌<◌, ◌≤◌, false, true, ltb, List, [], ◌∷◌, length, get_or, set, inl, inr, refl, sym, ap, subst, ◌∙◌}
use Rattle.std.proofs.Common.{add-one, arith}
use Rattle.std.specs.List.{prefix_len, insert as insert_at, remove as remove_at}
use Rattle.std.proofs.lemmas.Bool.{lt-ltb, le-ltb, cases_eq, true≢false}
use Rattle.std.proofs.lemmas.List.Edits.{get_or-remove_below, get_or-remove_above, length-remove}
use Rattle.std.proofs.lemmas.List.Sums.{prefix_len_is}
use Rattle.grid.specs.Squares.{contains, insert}
use Rattle.grid.specs.Rising.{is_rising}
use Rattle.grid.proofs.lemmas.Squares.{rising_places, contains-get_or}
use Rattle.grid.proofs.lemmas.Places.{insert_place}

-- the square after the hole moves into it
hole_up : (xs : List ℕ) (h : ℕ) → suc h < length xs → remove_at (set xs h (get_or xs (suc h) 0)) (suc h) ≡ remove_at xs h
hole_up [] h lt = absurd (omega arith)
hole_up (x ∷ []) h lt = absurd (omega arith)
hole_up (x ∷ y ∷ ys) zero lt = refl
hole_up (x ∷ y ∷ ys) (suc h) lt = ap (λ (zs : List ℕ). x ∷ zs) (hole_up (y ∷ ys) h (omega arith))

-- the hole is filled
hole_filled : (xs : List ℕ) (h q : ℕ) → h < length xs → set xs h q ≡ insert_at (remove_at xs h) h q
hole_filled [] h q lt = absurd (omega arith)
hole_filled (x ∷ xs) zero q lt = refl
hole_filled (x ∷ xs) (suc h) q lt = ap (λ (zs : List ℕ). x ∷ zs) (hole_filled xs h q (omega arith))

-- the same, as the loop has it
pub moved_up : (xs : List ℕ) (h y : ℕ) → h + 1 < length xs → y ≡ get_or xs (h + 1) 0 → remove_at (set xs h y) (h + 1) ≡ remove_at xs h
moved_up xs h y lt e =
    let e' : y ≡ get_or xs (suc h) 0 = subst (λ (n : ℕ). y ≡ get_or xs n 0) (add-one h) e in
    subst (λ (n : ℕ). remove_at (set xs h y) n ≡ remove_at xs h) (sym (add-one h)) (ap (λ (z : ℕ). remove_at (set xs h z) (suc h)) e' ∙
    hole_up xs h (omega arith))

-- the hole stands between what is less and what is not
pub settled : (xs : List ℕ) (h q : ℕ) → h < length xs → is_rising (remove_at xs h) ≡ true → contains (remove_at xs h) q ≡ false →
    (0 < h → get_or xs (h - 1) 0 ≤ q) → (h + 1 < length xs → q ≤ get_or xs (h + 1) 0) → set xs h q ≡ insert (remove_at xs h) q
settled xs h q lt rising out less more =
    let ys = remove_at xs h in
    let size : length ys + 1 ≡ length xs = length-remove xs h lt in
    let below : (k : ℕ) → k < h → get_or ys k 0 < q = λ k k<h.
    let last : get_or ys (h - 1) 0 ≡ get_or xs (h - 1) 0 = get_or-remove_below xs h 0 (h - 1) (omega arith) lt in
    let most : get_or xs (h - 1) 0 ≤ q = less (omega arith) in
    let other : get_or ys (h - 1) 0 ≡ q → ⊥ = λ e. true≢false (sym (subst (λ (x : ℕ). contains ys x ≡ true) e (contains-get_or ys (h - 1) 0 (omega arith))) ∙
    out) in
    let high : get_or xs (h - 1) 0 < q = omega (arith, last, most, other) in
    elim (cases_eq k (h - 1)) [
      | inl e ↦ subst (λ (n : ℕ). get_or ys n 0 < q) (sym e) (omega (arith, last, high))
      | inr ne ↦ let low : get_or ys k 0 < get_or ys (h - 1) 0 = rising_places ys k (h - 1) 0 rising (omega (arith, ne)) (omega arith) in
          omega (arith, low, last, high)
    ] in
    let above : h < length ys → q ≤ get_or ys h 0 = λ inside.
    let first : get_or ys h 0 ≡ get_or xs (h + 1) 0 = get_or-remove_above xs h 0 h (omega arith) lt in
    let low : q ≤ get_or xs (h + 1) 0 = more (omega arith) in
    omega (arith, first, low) in
    let place : prefix_len (λ x. ltb x q) ys ≡ h = prefix_len_is (λ x. ltb x q) ys h 0 (omega arith) (λ k k<h. lt-ltb (get_or ys k 0) q (below k k<h))
    (λ inside. le-ltb (get_or ys h 0) q (above inside)) in
    hole_filled xs h q lt ∙ (ap (λ (n : ℕ). insert_at ys n q) (sym place) ∙ insert_place ys q out)
