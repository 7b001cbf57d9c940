-- Loops over books that count positions, and books that are still at work.
use Rattle.std.proofs.Common.{◌≡◌, ℕ, zero, suc, ◌+◌, ◌<◌, ◌≤◌, List, [], ◌∷◌, length, get_or, set, take, Option}
use Rattle.std.proofs.Common.{None, Some, IfSome, inl, inr, refl, sym, ap, subst, ◌∙◌, arith}
use Rattle.std.specs.Prelude.{slice_get}
use Rattle.std.proofs.lemmas.Bool.{cases_lt}
use Rattle.std.proofs.lemmas.List.Sums.{sum_by_push}
use Rattle.std.proofs.lemmas.Option.{none-some, same_Some, slice_get_within}
use Rattle.layers.specs.LayerView.{LayerView}
use Rattle.layers.specs.BookView.{AreLawfulBooks, BookView, IsLawfulBook}
use Rattle.layers.specs.Books.{AllDone, HasBegun}
use Rattle.layers.specs.Holding.{all_held, held}
use Rattle.successors.proofs.lemmas.Lists.{each_set, set_here, sum_by_first, take_push}
use Rattle.solo.specs.inside.Iterations.{AreDoneBy, IsDoneBy}
use Rattle.solo.specs.inside.Together.{AreStill, IsFullBook, IsStill, PassTogether}
use Rattle.solo.proofs.Credits.{by_nobody}
use Rattle.solo.proofs.Each.{HaveChangedUpTo, ended_at, next_kept, some_changed}

-- one more book is counted
pub held_more : (books : List BookView) (place : ℕ) (v : BookView) → slice_get books place ≡ Some v →
    all_held (take (place + 1) books) ≡ all_held (take place books) + held v
held_more books place v at =
    let one : place + 1 ≡ suc place = omega arith in
    ap (λ n. all_held (take n books)) one ∙ ap all_held (take_push books place v at) ∙ sum_by_push held (take place books) v

-- and is lawful
pub lawful_more : (books : List BookView) (place : ℕ) (v : BookView) → slice_get books place ≡ Some v → IsLawfulBook v →
    ((i : ℕ) (u : BookView) → i < place → slice_get books i ≡ Some u → IsLawfulBook u) → (i : ℕ) (u : BookView) → i < place + 1 → slice_get books i ≡ Some u →
    IsLawfulBook u
lawful_more books place v at lawful before i u lt at_u = elim (cases_lt i place) [
  | inl less ↦ before i u less at_u
  | inr more ↦ (let e : place ≡ i = omega arith in subst IsLawfulBook (same_Some v u (sym at ∙ ap (slice_get books) e ∙ at_u)) lawful)
]

-- a lawful book holds fewer positions than a number of 32 bits counts
pub held_few : (v : BookView) → IsLawfulBook v → held v ≤ 4294967295
held_few v book = omega (arith, book.within, book.bounds.limits)

-- ---- one of several books works on

-- what all hold then
held_set : (books : List BookView) (place : ℕ) (v w : BookView) → slice_get books place ≡ Some v →
    all_held (set books place w) + held v ≡ all_held books + held w
held_set [] place v w at = absurd (none-some v at)
held_set (b ∷ books) zero v w at = omega (arith, sum_by_first held w books, sum_by_first held b books, ap held (same_Some b v at))
held_set (b ∷ books) (suc place) v w at =
    omega (arith, sum_by_first held b (set books place w), sum_by_first held b books, held_set books place v w at)

-- where it holds more than the limit leaves, or is over, they pass the limit together
pub full_pass : (limit left : ℕ) (books : List BookView) (place : ℕ) (v w : BookView) → left + all_held books ≡ limit → AreLawfulBooks books →
    slice_get books place ≡ Some v → IsLawfulBook w → IsFullBook (held v + left) w → PassTogether limit (set books place w)
full_pass limit left books place v w leaves all at new full = (
  each_set IsLawfulBook books place w new all,
  elim full [
    | inl over ↦ inl (place, w, set_here books place w (slice_get_within books place v at), over)
    | inr more ↦ inr (omega (arith, leaves, more, held_set books place v w at))
  ],
)

-- the book is still at work on the layer, only the worker gets credit, and each rank is done
abbrev pub IsDoneWith : LayerView → ℕ → BookView → BookView → Type 0
IsDoneWith layer worker v w = IsStill layer v w × IsDoneBy worker v w × AllDone w

module _ (layer : LayerView) (worker : ℕ) (before now : List BookView) (place : ℕ) (so : HaveChangedUpTo (IsDoneWith layer worker) before place now)
    (begun : (i : ℕ) (v : BookView) → slice_get before i ≡ Some v → HasBegun v layer) where
  still_itself : (i : ℕ) (v : BookView) → slice_get before i ≡ Some v → IsStill layer v v
  still_itself i v at = ((refl, refl, refl, refl, refl), refl, begun i v at)

  -- a loop over them ends before the next one
  pub all_still : AreStill layer before now
  all_still = some_changed (IsDoneWith layer worker) (IsStill layer) before place now (λ v w e. e.0) still_itself so

  pub all_credited : AreDoneBy worker before now
  all_credited = some_changed (IsDoneWith layer worker) (IsDoneBy worker) before place now (λ v w e. e.1) (λ i v at. by_nobody worker v v refl refl) so

  -- or with it, where what was called before left them the same
  module _ (books : List BookView) (d : BookView) (same : books ≡ now) (lt : place < length before) where
    pub next_same : slice_get before place ≡ Some (get_or books place d)
    next_same = next_kept (IsDoneWith layer worker) before place books d lt (subst (HaveChangedUpTo (IsDoneWith layer worker) before place) (sym same) so)

    pub next_still : (w : BookView) → IsStill layer (get_or books place d) w → AreStill layer before (set books place w)
    next_still w on = ended_at (IsDoneWith layer worker) (IsStill layer) before place books (get_or books place d) w (λ x y e. e.0) still_itself
        (subst (HaveChangedUpTo (IsDoneWith layer worker) before place) (sym same) so) next_same on

    pub next_credited : (w : BookView) → IsDoneBy worker (get_or books place d) w → AreDoneBy worker before (set books place w)
    next_credited w by = ended_at (IsDoneWith layer worker) (IsDoneBy worker) before place books (get_or books place d) w (λ x y e. e.1)
        (λ i v at. by_nobody worker v v refl refl) (subst (HaveChangedUpTo (IsDoneWith layer worker) before place) (sym same) so) next_same by

-- what holds whatever is given, beside what holds of it
pub both_if_some : {A : Type 0} {P : Type 0} (Q : A → Type 0) (o : Option A) → P → IfSome o Q → IfSome o (λ x. P × Q x)
both_if_some Q None p q = tt
both_if_some Q (Some x) p q = (p, q)
