-- Lists of pushes: the shorter comes first, and of two lists of one length the fronts decide first.
use Rattle.std.proofs.Common.{◌≡◌, ℕ, ◌<◌, ◌≤◌, false, List, [], ◌∷◌, ◌++◌, length, refl, ap, ◌⊎◌, inl, inr, arith}
use Rattle.std.proofs.lemmas.Bool.Decides.{nat_tests}
use Rattle.std.proofs.lemmas.Bool.{cases_lt}
use Rattle.std.specs.declared.cmp.Ordering.{Ordering}
use Rattle.std.specs.declared.cmp.Ordering.TheVariants.{Less, Equal, Greater}
use Rattle.std.specs.Ordering.{nat_cmp, ordering_then, is_gt}
use Rattle.std.specs.Cmp.{IsTotalOrder}
use Rattle.std.specs.Cmp.Lexicographic.{slice_cmp}
use Rattle.grid.specs.Plays.{shortlex}

-- the pushes before the last decide first
pub slice_cmp-snoc : {P : Type 0} (cmp : P → P → Ordering) (ps qs : List P) (p q : P) → length ps ≡ length qs →
    slice_cmp cmp (ps ++ p ∷ []) (qs ++ q ∷ []) ≡ ordering_then (slice_cmp cmp ps qs) (cmp p q)
slice_cmp-snoc cmp [] [] p q e = grind arith
slice_cmp-snoc cmp [] (y ∷ qs) p q e = absurd (omega arith)
slice_cmp-snoc cmp (x ∷ ps) [] p q e = absurd (omega arith)
slice_cmp-snoc cmp (x ∷ ps) (y ∷ qs) p q e = grind (arith, slice_cmp-snoc cmp ps qs p q (omega arith))

-- lists that compare as equal are equal
pub slice_cmp_exact : {P : Type 0} (cmp : P → P → Ordering) → ((p q : P) → cmp p q ≡ Equal → p ≡ q) → (ps qs : List P) → slice_cmp cmp ps qs ≡ Equal → ps ≡ qs
slice_cmp_exact cmp exact [] [] e = refl
slice_cmp_exact cmp exact [] (y ∷ qs) e = cc
slice_cmp_exact cmp exact (x ∷ ps) [] e = cc
slice_cmp_exact cmp exact (x ∷ ps) (y ∷ qs) e = grind (arith, slice_cmp_exact cmp exact ps qs)

-- of two lists the first of which is no later, it is no longer
pub shortlex-length : {P : Type 0} (cmp : P → P → Ordering) (ps qs : List P) → is_gt (shortlex cmp ps qs) ≡ false → length ps ≤ length qs
shortlex-length cmp ps qs h = grind (arith, nat_tests)

pub shortlex_shorter : {P : Type 0} (cmp : P → P → Ordering) (ps qs : List P) → length ps < length qs → is_gt (shortlex cmp ps qs) ≡ false
shortlex_shorter cmp ps qs h = grind (arith, nat_tests)

pub shortlex_same : {P : Type 0} (cmp : P → P → Ordering) (ps qs : List P) → length ps ≡ length qs → shortlex cmp ps qs ≡ slice_cmp cmp ps qs
shortlex_same cmp ps qs h = grind (arith, nat_tests)

-- what is before b is before whatever b is no later than
pub less_upto : {K : Type 0} {R : K → K → Ordering} → IsTotalOrder R → (a b c : K) → R a b ≡ Less → is_gt (R b c) ≡ false → R a c ≡ Less
less_upto {K} {R} total a b c h g = grind arith

-- two that are no later, one after the other
pub then_upto : (a b : Ordering) → is_gt a ≡ false → is_gt b ≡ false → is_gt (ordering_then a b) ≡ false
then_upto Less b h g = refl
then_upto Equal b h g = g
then_upto Greater b h g = cc

pub less_then : (a b : Ordering) → a ≡ Less → ordering_then a b ≡ Less
less_then Less b e = refl
less_then Equal b e = cc
less_then Greater b e = cc

pub equal_then : (a b : Ordering) → a ≡ Equal → ordering_then a b ≡ b
equal_then Less b e = cc
equal_then Equal b e = refl
equal_then Greater b e = cc

pub upto-less : (a : Ordering) → a ≡ Less → is_gt a ≡ false
upto-less a e = ap is_gt e

-- of two origins the first of which is no later, with a rank that is no less, the ranks are equal and the push is no later
pub nat_cmp_upto : (r s : ℕ) (c : Ordering) → is_gt (ordering_then (nat_cmp r s) c) ≡ false → s ≤ r → (r ≡ s) × (is_gt c ≡ false)
nat_cmp_upto r s c h g = (grind (arith, nat_tests), grind (arith, nat_tests))

-- an origin that is before another has a lesser rank, or the same rank and a lesser push
pub nat_cmp_less : (r s : ℕ) (c : Ordering) → ordering_then (nat_cmp r s) c ≡ Less → (r < s) ⊎ ((r ≡ s) × (c ≡ Less))
nat_cmp_less r s c h = elim (cases_lt r s) [ inl lt ↦ inl lt | inr ge ↦ inr (grind (arith, nat_tests), grind (arith, nat_tests)) ]

-- origins that compare as equal have the same rank and pushes that compare as equal
pub nat_cmp_equal : (r s : ℕ) (c : Ordering) → ordering_then (nat_cmp r s) c ≡ Equal → (r ≡ s) × (c ≡ Equal)
nat_cmp_equal r s c h = (grind (arith, nat_tests), grind (arith, nat_tests))
