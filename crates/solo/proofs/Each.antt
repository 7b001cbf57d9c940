-- Loops over the books of a search.
use Rattle.std.proofs.Common.{◌≡◌, ℕ, ◌+◌, ◌<◌, ◌≤◌, List, length, get_or, set, Result, Ok, Err, OnErr, Some, inl, inr, refl, sym, ap, subst, ◌∙◌, arith}
use Rattle.std.specs.Prelude.{slice_get}
use Rattle.std.proofs.lemmas.Bool.{cases_lt}
use Rattle.std.proofs.lemmas.List.{length-set}
use Rattle.std.proofs.lemmas.Option.{get_or_from_slice_get, same_Some, slice_get-get_or, slice_get_within}
use Rattle.successors.proofs.lemmas.Lists.{set_here, set_there}
use Rattle.layers.specs.BookView.{BookView}
use Rattle.solo.specs.inside.Iterations.{HaveChanged}

pub on_err : {A E : Type 0} {P : Type 0} (r : Result A E) → P → OnErr r P
on_err (Ok x) p = tt
on_err (Err e) p = p

-- those before a place have changed, each as After says, and the others are as they were
pub record HaveChangedUpTo (After : BookView → BookView → Type 0) (before : List BookView) (place : ℕ) (books : List BookView) : Type 0 where
  pub same : length books ≡ length before
  pub changed : (i : ℕ) (v : BookView) → i < place → slice_get before i ≡ Some v → (w : BookView) × (slice_get books i ≡ Some w) × After v w
  pub kept : (i : ℕ) (v : BookView) → place ≤ i → slice_get before i ≡ Some v → slice_get books i ≡ Some v

pub none_changed : (After : BookView → BookView → Type 0) (before : List BookView) → HaveChangedUpTo After before 0 before
none_changed After before = record { same = refl; changed = λ i v lt at. absurd (omega arith); kept = λ i v le at. at }

-- the next one changes
pub one_changed : (After : BookView → BookView → Type 0) (before : List BookView) (place : ℕ) (books : List BookView) (v w : BookView) →
    HaveChangedUpTo After before place books → slice_get before place ≡ Some v → After v w → HaveChangedUpTo After before (place + 1) (set books place w)
one_changed After before place books v w so at after = record {
  same = length-set books place w ∙ so.same;
  changed = λ i x lt at_x. elim (cases_lt i place) [
    | inl less ↦ (let old = so.changed i x less at_x in (old.0, set_there books place i w (λ e. absurd (omega (arith, e, less))) ∙ old.1, old.2))
    | inr more ↦ (let e : place ≡ i = omega arith in
        let x_is : v ≡ x = same_Some v x (sym at ∙ ap (slice_get before) e ∙ at_x) in (
          w,
          subst (λ j. slice_get (set books place w) j ≡ Some w) e (set_here books place w (omega (arith, slice_get_within before place v at, so.same))),
          subst (λ z. After z w) x_is after,
        ))
  ];
  kept = λ i x le at_x. set_there books place i w (λ e. absurd (omega (arith, e, le))) ∙ so.kept i x (omega arith) at_x;
}

-- the one in the next place is as it was
pub next_kept : (After : BookView → BookView → Type 0) (before : List BookView) (place : ℕ) (books : List BookView) (d : BookView) → place < length before →
    HaveChangedUpTo After before place books → slice_get before place ≡ Some (get_or books place d)
next_kept After before place books d lt so =
    let b = get_or before place d in
    let there : slice_get before place ≡ Some b = slice_get-get_or before place d lt in
    there ∙ ap (λ (z : BookView). Some z) (sym (get_or_from_slice_get books place b d (so.kept place b (omega arith) there)))

-- all have changed
pub all_changed : (After : BookView → BookView → Type 0) (before : List BookView) (place : ℕ) (books : List BookView) → length books ≤ place →
    HaveChangedUpTo After before place books → HaveChanged After before books
all_changed After before place books all so = (so.same, λ i v at. so.changed i v (omega (arith, slice_get_within before i v at, so.same)) at)

-- what holds of each that changed, and of each that is as it was, holds of all
pub some_changed : (After Other : BookView → BookView → Type 0) (before : List BookView) (place : ℕ) (books : List BookView) →
    ((v w : BookView) → After v w → Other v w) → ((i : ℕ) (v : BookView) → slice_get before i ≡ Some v → Other v v) →
    HaveChangedUpTo After before place books → HaveChanged Other before books
some_changed After Other before place books wider kept so = (
  so.same,
  λ i v at. elim (cases_lt i place) [
    | inl less ↦ (let old = so.changed i v less at in (old.0, old.1, wider v old.0 old.2))
    | inr more ↦ (v, so.kept i v more at, kept i v at)
  ],
)

-- and where it holds of the next one that changes too
pub ended_at : (After Other : BookView → BookView → Type 0) (before : List BookView) (place : ℕ) (books : List BookView) (v w : BookView) →
    ((x y : BookView) → After x y → Other x y) → ((i : ℕ) (x : BookView) → slice_get before i ≡ Some x → Other x x) →
    HaveChangedUpTo After before place books → slice_get before place ≡ Some v → Other v w → HaveChanged Other before (set books place w)
ended_at After Other before place books v w wider kept so at other =
    let wide : HaveChangedUpTo Other before place books = record {
      same = so.same;
      changed = λ i x lt at_x. (let old = so.changed i x lt at_x in (old.0, old.1, wider x old.0 old.2));
      kept = so.kept;
    } in
    some_changed Other Other before (place + 1) (set books place w) (λ x y e. e) kept (one_changed Other before place books v w wide at other)
