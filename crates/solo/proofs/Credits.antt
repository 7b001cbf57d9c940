-- Which worker gets credit for the ranks that are done.
use Rattle.std.proofs.Common.{◌≡◌, ℕ, zero, suc, ◌+◌, Bool, true, false, not, cond, List, [], ◌∷◌, count_by, get_or, set, Some}
use Rattle.std.proofs.Common.{refl, sym, ap, subst, ◌∙◌, arith}
use Rattle.std.specs.Prelude.{slice_get}
use Rattle.std.proofs.lemmas.List.{set-get_or}
use Rattle.std.proofs.lemmas.Option.{same_Some}
use Rattle.successors.proofs.lemmas.Lists.{sum_by_first}
use Rattle.successors.specs.ParcelView.{ParcelView}
use Rattle.layers.specs.BookView.{BookView}
use Rattle.layers.specs.Books.{with_parcel}
use Rattle.solo.specs.inside.Iterations.{IsDoneBy}

-- ---- numbers and marks

count_not-set : (bs : List Bool) (i : ℕ) → slice_get bs i ≡ Some false → count_by not bs ≡ count_by not (set bs i true) + 1
count_not-set [] i e = cc
count_not-set (b ∷ bs) zero e =
    let f : b ≡ false = same_Some b false e in
    omega (arith, sum_by_first (λ c. cond (not c) 1 0) true bs, sum_by_first (λ c. cond (not c) 1 0) b bs, ap {B = ℕ} (λ c. cond (not c) 1 0) f)
count_not-set (b ∷ bs) (suc i) e =
    omega (arith, sum_by_first (λ c. cond (not c) 1 0) b (set bs i true), sum_by_first (λ c. cond (not c) 1 0) b bs, count_not-set bs i e)

add_nothing : (ns : List ℕ) (i : ℕ) → ns ≡ set ns i (get_or ns i 0 + 0)
add_nothing ns i = let same : get_or ns i 0 + 0 ≡ get_or ns i 0 = omega arith in sym (ap (set ns i) same ∙ set-get_or ns i 0)

add_both : (ns : List ℕ) (i a b : ℕ) → set (set ns i (get_or ns i 0 + a)) i (get_or (set ns i (get_or ns i 0 + a)) i 0 + b) ≡ set ns i (get_or ns i 0 + (a + b))
add_both [] i a b = refl
add_both (n ∷ ns) zero a b = ap (λ k. k ∷ ns) (omega arith)
add_both (n ∷ ns) (suc i) a b = ap (λ ks. n ∷ ks) (add_both ns i a b)

-- ---- books

-- where nothing was done nobody is credited
pub by_nobody : (worker : ℕ) (before after : BookView) → after.done ≡ before.done → after.tallies ≡ before.tallies → IsDoneBy worker before after
by_nobody worker before after done tallies =
    (0, omega (arith, ap (λ bs. count_by not bs) done), tallies ∙ add_nothing before.tallies worker)

-- what was done first and what was done then
pub by_both : (worker : ℕ) (first then last : BookView) → IsDoneBy worker first then → IsDoneBy worker then last → IsDoneBy worker first last
by_both worker first then last (a, left, to) (b, more, on) =
    (a + b, omega (arith, left, more), on ∙ ap (λ ns. set ns worker (get_or ns worker 0 + b)) to ∙ add_both first.tallies worker a b)

-- a rank that the worker hands back
pub by_parcel : (worker : ℕ) (before after : BookView) (parcel : ParcelView) → slice_get before.done parcel.rank ≡ Some false →
    after ≡ with_parcel before worker parcel → IsDoneBy worker before after
by_parcel worker before after parcel free is = subst (IsDoneBy worker before) (sym is)
    (1, count_not-set before.done parcel.rank free, ap (λ n. set before.tallies worker n) (omega arith))
