-- What holds of all elements holds of those after the first, and what holds of the first and of those after it holds of all.
use Rattle.std.proofs.Common.{◌≡◌, ℕ, ◌+◌, ◌-◌, ◌<◌, List, ◌++◌, length, set, sym, subst, ap, ◌∙◌, arith}
use lib.ListN.{get_or}
use Rattle.std.proofs.lemmas.List.{get_or-set_same, get_or_default, length-set, get_or_append_left, get_or-append_right, length-append}
use Rattle.std.proofs.lemmas.Bool.{cases_lt}
use mathlib.Core.Logic.{⊎_elim}
use Rattle.spreading.specs.Places.{HoldsFrom, ChangesFrom}

module _ {X : Type 0} (P : ℕ → X → Type 0) (base : ℕ) where
  pub holds_first : (all part more : List X) → all ≡ part ++ more → HoldsFrom P base all → HoldsFrom P base part
  holds_first all part more is each k d low =
      subst (P (base + k)) (ap (λ l. get_or l k d) is ∙ get_or_append_left part more d k low)
      (each k d (omega (arith, ap length is, length-append part more, low)))

  pub holds_rest : (all part more : List X) (n : ℕ) → all ≡ part ++ more → length part ≡ n → HoldsFrom P base all → HoldsFrom P (base + n) more
  holds_rest all part more n is many each k d low =
      let at : base + (n + k) ≡ base + n + k = omega arith in
      let down : n + k - n ≡ k = omega arith in
      subst (λ i. P i (get_or more k d)) at
      (subst (P (base + (n + k))) (ap (λ l. get_or l (n + k) d) is ∙ get_or-append_right part more n (n + k) d many (omega arith)
      ∙ ap (λ i. get_or more i d) down) (each (n + k) d (omega (arith, ap length is, length-append part more, many))))

  pub holds_only : (xs : List X) → length xs ≡ 1 → HoldsFrom P base xs → (d : X) → P base (get_or xs 0 d)
  holds_only xs single each d =
      let at : base + 0 ≡ base = omega arith in subst (λ i. P i (get_or xs 0 d)) at (each 0 d (omega arith))

module _ {X : Type 0} (R : ℕ → X → X → Type 0) (base : ℕ) where
  pub changes_only : (xs : List X) (y : X) → length xs ≡ 1 → (e : X) → R base (get_or xs 0 e) y → ChangesFrom R base xs (set xs 0 y)
  changes_only xs y single e change =
      record {
        len = length-set xs 0 y;
        each = λ k d low.
            let first : k ≡ 0 = omega arith in let at : base ≡ base + k = omega arith in
            subst (λ i. R i (get_or xs k d) (get_or (set xs 0 y) k d)) at
            (subst (λ i. R base (get_or xs i d) (get_or (set xs 0 y) i d)) (sym first)
            (subst (R base (get_or xs 0 d)) (sym (get_or-set_same xs 0 y d (omega arith)))
            (subst (λ x. R base x y) (get_or_default xs 0 e d (omega arith)) change)));
      }

  pub changes_both : (all part more part' more' : List X) (n : ℕ) → all ≡ part ++ more → length part ≡ n → ChangesFrom R base part part' →
      ChangesFrom R (base + n) more more' → ChangesFrom R base all (part' ++ more')
  changes_both all part more part' more' n is many a b =
      let many' : length part' ≡ n = a.len ∙ many in
      record {
        len = omega (arith, ap length is, length-append part more, length-append part' more', a.len, b.len);
        each = λ k d low. ⊎_elim
            (λ first.
            subst (λ x. R (base + k) x (get_or (part' ++ more') k d)) (sym (ap (λ l. get_or l k d) is ∙ get_or_append_left part more d k (omega (arith, many, first))))
            (subst (R (base + k) (get_or part k d)) (sym (get_or_append_left part' more' d k (omega (arith, many', first)))) (a.each k d (omega (arith, many, first)))))
            (λ later.
            let m = k - n in let at : base + n + m ≡ base + k = omega (arith, later) in
            subst (λ x. R (base + k) x (get_or (part' ++ more') k d)) (sym (ap (λ l. get_or l k d) is ∙ get_or-append_right part more n k d many later))
            (subst (R (base + k) (get_or more m d)) (sym (get_or-append_right part' more' n k d many' later))
            (subst (λ i. R i (get_or more m d) (get_or more' m d)) at (b.each m d (omega (arith, later, many, ap length is, length-append part more))))))
            (cases_lt k n);
      }

pub changes_all : {X : Type 0} (R : ℕ → X → X → Type 0) (xs ys : List X) → ChangesFrom R 0 xs ys → (i : ℕ) (d : X) → i < length xs →
    R i (get_or xs i d) (get_or ys i d)
changes_all R xs ys h i d low =
    let at : 0 + i ≡ i = omega arith in subst (λ k. R k (get_or xs i d) (get_or ys i d)) at (h.each i d low)
