-- How a list of all that has a property grows, one by one, in the order of the pushes.
use Rattle.std.proofs.Common.{◌≡◌, ℕ, zero, suc, List, [], ◌∷◌, ◌++◌, length, Some, ◌⊎◌, inl, inr, refl, sym, ap, subst, ◌∙◌, arith}
use Rattle.std.proofs.lemmas.Option.{same_Some, none-some, slice_get_within}
use Rattle.std.specs.Prelude.{slice_get}
use Rattle.std.specs.declared.cmp.Ordering.TheVariants.{Less}
use Rattle.grid.specs.declared.square.Push.{Push}
use Rattle.grid.specs.Board.{push_cmp}
use Rattle.area.specs.Pushes.{AreAll}

-- ---- a list with one more element

kept_at : {A : Type 0} (xs ys : List A) (y : A) (i : ℕ) → slice_get xs i ≡ Some y → slice_get (xs ++ ys) i ≡ Some y
kept_at [] ys y i e = absurd (none-some y e)
kept_at (x ∷ xs) ys y zero e = e
kept_at (x ∷ xs) ys y (suc i) e = kept_at xs ys y i e

last_at : {A : Type 0} (xs : List A) (x : A) → slice_get (xs ++ x ∷ []) (length xs) ≡ Some x
last_at [] x = refl
last_at (y ∷ xs) x = last_at xs x

pub pushed_at : {A : Type 0} (xs : List A) (x y : A) (i : ℕ) → slice_get (xs ++ x ∷ []) i ≡ Some y → (slice_get xs i ≡ Some y) ⊎ ((i ≡ length xs) × (y ≡ x))
pushed_at [] x y zero e = inr (refl, sym (same_Some x y e))
pushed_at [] x y (suc i) e = absurd (none-some y e)
pushed_at (z ∷ xs) x y zero e = inl e
pushed_at (z ∷ xs) x y (suc i) e = elim (pushed_at xs x y i e) [ inl h ↦ inl h | inr h ↦ inr (ap suc h.0, h.1) ]

-- ---- all that has a property

module _ {A : Type 0} {push_of : A → Push} where
  -- the property in other words
  pub all_same : (Has Other : A → Type 0) (xs : List A) → AreAll push_of Has xs → ((x : A) → Has x → Other x) → ((x : A) → Other x → Has x) →
      AreAll push_of Other xs
  all_same Has Other xs all on back = grind arith

  -- one more, after the others
  pub all_push : (Has More : A → Type 0) (xs : List A) (z : A) → AreAll push_of Has xs → More z → ((x : A) → Has x → More x) →
      ((x : A) → More x → Has x ⊎ (x ≡ z)) → ((x : A) → Has x → push_cmp (push_of x) (push_of z) ≡ Less) → AreAll push_of More (xs ++ z ∷ [])
  all_push Has More xs z all new on back after = record {
    each = λ i x e. elim (pushed_at xs z x i e) [ inl h ↦ on x (all.each i x h) | inr h ↦ subst More (sym h.1) new ];
    rise = λ i j x y lt e f. elim (pushed_at xs z y j f) [
      | inl g ↦ elim (pushed_at xs z x i e) [ inl h ↦ all.rise i j x y lt h g | inr h ↦ absurd (let w = slice_get_within xs j y g in omega (arith, h.0, w)) ]
      | inr g ↦ elim (pushed_at xs z x i e) [
        | inl h ↦ subst (λ (u : A). push_cmp (push_of x) (push_of u) ≡ Less) (sym g.1) (after x (all.each i x h))
        | inr h ↦
            absurd (omega (arith, h.0, g.0))
      ]
    ];
    whole = λ x h. elim (back x h) [
      | inl old ↦ (let w = all.whole x old in (w.0, kept_at xs (z ∷ []) x w.0 w.1))
      | inr e ↦
          (length xs, last_at xs z ∙ ap Some (sym e))
    ];
  }
