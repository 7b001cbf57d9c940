-- The number of entries that are not at their targets: each exchange makes it less.
use Rattle.std.proofs.Common.{◌≡◌, ◌≢◌, ℕ, zero, suc, ◌+◌, ◌<◌, ◌≤◌, ◌==◌, List, [], ◌∷◌, length, set, Some, sym, ap, ◌∙◌, if◌then◌else◌, arith}
use Rattle.std.proofs.lemmas.Bool.Decides.{nat_tests}
use Rattle.std.proofs.lemmas.List.Edits.{swap_is}
use Rattle.std.proofs.lemmas.Option.{slice_get_within, get_or_from_slice_get, none-some}
use Rattle.std.specs.Prelude.{slice_get}
use Rattle.std.specs.List.{swap}
use Rattle.store.specs.inside.Placing.{AreApart}
use Rattle.successors.proofs.lemmas.Lists.{set_there}
use Rattle.store.proofs.Tails.{entry_at}

pub stray : ℕ → ℕ → ℕ
stray k t = if t == k then 0 else 1

abbrev pub strays : ℕ → List ℕ → ℕ
strays k [] = 0
strays k (t ∷ ts) = stray k t + strays (suc k) ts

stray_itself : (k t : ℕ) → t ≡ k → stray k t ≡ 0
unfolding stray
stray_itself k t e = grind (arith, nat_tests)

stray_other : (k t : ℕ) → t ≢ k → stray k t ≡ 1
unfolding stray
stray_other k t n = grind (arith, nat_tests)

stray_most : (k t : ℕ) → stray k t ≤ 1
unfolding stray
stray_most k t = grind (arith, nat_tests)

strays-set : (k : ℕ) (ts : List ℕ) (i old new : ℕ) → slice_get ts i ≡ Some old → strays k (set ts i new) + stray (k + i) old ≡ strays k ts + stray (k + i) new
strays-set k [] i old new at = absurd (none-some old at)
strays-set k (t ∷ ts) zero old new at = grind arith
strays-set k (t ∷ ts) (suc i) old new at = grind (arith, strays-set (suc k) ts i old new at)

pub fewer : (ts : List ℕ) (a t : ℕ) → slice_get ts a ≡ Some t → t ≢ a → AreApart ts → strays 0 (swap ts a t) < strays 0 ts
fewer ts a t at ne places =
    let inside : t < length ts = places.inside a t at in
    let w = entry_at ts t inside in
    let u : ℕ = w.0 in
    let other : u ≢ t = λ (e : u ≡ t). ne (sym (places.apart a t t at (w.1 ∙ ap (λ (n : ℕ). Some n) e))) in
    let one = strays-set 0 ts a t u at in
    let two = strays-set 0 (set ts a u) t u t (set_there ts a t u ne ∙ w.1) in
    let is : set (set ts a u) t t ≡ swap ts a t =
    (λ i. set (set ts a (sym (get_or_from_slice_get ts t u 0 w.1) i)) t (sym (get_or_from_slice_get ts a t 0 at) i)) ∙
    swap_is ts a t 0 (slice_get_within ts a t at) inside in
    omega (
      arith,
      one,
      two,
      ap (strays 0) is,
      stray_other (0 + a) t (λ e. ne (omega (arith, e))),
      stray_other (0 + t) u (λ e. other (omega (arith, e))),
      stray_itself (0 + t) t (omega arith),
      stray_most (0 + a) u,
    )
