-- How many: lists without repetition, and lists of lists cut short.
use Rattle.std.proofs.Common.{◌≡◌, ℕ, zero, suc, ◌+◌, ◌*◌, ◌^◌, ◌<◌, ◌≤◌, List, [], ◌∷◌, ◌++◌, length, map, take, sum_by, Some, ◌⊎◌, inl, inr, refl, sym, ap}
use Rattle.std.proofs.Common.{◌∙◌, arith}
use Rattle.std.proofs.lemmas.List.{length-append}
use Rattle.std.proofs.lemmas.Option.{same_Some, none-some}
use Rattle.std.specs.Prelude.{slice_get}
use Rattle.successors.specs.Layered.{IsIn}
use Rattle.successors.specs.Reaching.{total}
use Rattle.successors.proofs.lemmas.Lists.{Distinct, at_before, sum_by_first}

-- ---- lists without repetition

-- the list without what stands at a place
abbrev without : {A : Type 0} → ℕ → List A → List A
without r [] = []
without zero (x ∷ xs) = xs
without (suc r) (x ∷ xs) = x ∷ without r xs

length-without : {A : Type 0} (r : ℕ) (xs : List A) (a : A) → slice_get xs r ≡ Some a → length xs ≡ suc (length (without r xs))
length-without r [] a e = absurd (none-some a e)
length-without zero (x ∷ xs) a e = refl
length-without (suc r) (x ∷ xs) a e = ap suc (length-without r xs a e)

-- an element at another index than r stays in the list without index r
in_without : {A : Type 0} (r s : ℕ) (xs : List A) (a : A) → slice_get xs s ≡ Some a → (s ≡ r) ⊎ IsIn (without r xs) a
in_without r s [] a e = absurd (none-some a e)
in_without zero zero (x ∷ xs) a e = inl refl
in_without zero (suc s) (x ∷ xs) a e = inr (s, e)
in_without (suc r) zero (x ∷ xs) a e = inr (zero, e)
in_without (suc r) (suc s) (x ∷ xs) a e = elim (in_without r s xs a e) [ inl same ↦ inl (ap suc same) | inr w ↦ inr (suc w.0, w.1) ]

-- a list without repetition is no longer than one that has all its elements
pub length-distinct : {A : Type 0} (ms xs : List A) → Distinct ms → ((a : A) → IsIn ms a → IsIn xs a) → length ms ≤ length xs
length-distinct [] xs distinct each = omega arith
length-distinct {A} (m ∷ ms) xs distinct each =
    omega (
      arith,
      length-without first.0 xs m first.1,
      length-distinct ms (without first.0 xs) (λ i j a at_i at_j. omega (arith, distinct (suc i) (suc j) a at_i at_j)) others,
    ) where
      first : IsIn xs m
      first = each m (zero, refl)

      others : (a : A) → IsIn ms a → IsIn (without first.0 xs) a
      others a w =
          let there = each a (suc w.0, w.1) in
          elim (in_without first.0 there.0 xs a there.1) [
            | inl same ↦ (let e : a ≡ m = same_Some a m (sym there.1 ∙ ap (slice_get xs) same ∙ first.1) in
                absurd (omega (arith, distinct zero (suc w.0) a (ap (λ b. Some b) (sym e)) w.1)))
            | inr rest ↦ rest
          ]

-- ---- lists of lists

-- the first lists have no more elements together than all
pub total-take : {A : Type 0} (n : ℕ) (xss : List (List A)) → total (take n xss) ≤ total xss
total-take zero [] = omega arith
total-take (suc n) [] = omega arith
total-take zero (xs ∷ xss) = omega arith
total-take (suc n) (xs ∷ xss) = omega (arith, sum_by_first length xs (take n xss), sum_by_first length xs xss, total-take n xss)

-- and as many where all later ones are empty
pub total-front : {A : Type 0} (n : ℕ) (xss : List (List A)) → ((j : ℕ) (xs : List A) → n ≤ j → slice_get xss j ≡ Some xs → length xs ≡ 0) →
    total xss ≡ total (take n xss)
total-front zero [] empty = refl
total-front (suc n) [] empty = refl
total-front zero (xs ∷ xss) empty =
    grind (arith, total-front zero xss (λ j ys le at_j. empty (suc j) ys (omega arith) at_j))
total-front (suc n) (xs ∷ xss) empty = omega (
  arith,
  sum_by_first length xs xss,
  sum_by_first length xs (take n xss),
  total-front n xss (λ j ys le at_j. empty (suc j) ys (omega arith) at_j),
)

-- lists have no more elements together than longer ones, place by place, and more of them
pub totals_upto : {A B : Type 0} (xss : List (List A)) (yss : List (List B)) → length xss ≤ length yss →
    ((j : ℕ) (xs : List A) (ys : List B) → slice_get xss j ≡ Some xs → slice_get yss j ≡ Some ys → length xs ≤ length ys) → total xss ≤ total yss
totals_upto [] yss few each = omega arith
totals_upto (xs ∷ xss) [] few each = absurd (omega arith)
totals_upto (xs ∷ xss) (ys ∷ yss) few each =
    omega (
      arith,
      sum_by_first length xs xss,
      sum_by_first length ys yss,
      each zero xs ys refl refl,
      totals_upto xss yss (omega arith) (λ j us vs at_u at_v. each (suc j) us vs at_u at_v),
    )

-- ---- all elements of a list of lists

abbrev pub flat : {A : Type 0} → List (List A) → List A
flat [] = []
flat (xs ∷ xss) = xs ++ flat xss

pub length-flat : {A : Type 0} (xss : List (List A)) → length (flat xss) ≡ total xss
length-flat [] = refl
length-flat (xs ∷ xss) = omega (arith, length-append xs (flat xss), length-flat xss, sum_by_first length xs xss)

-- what stands in two lists, one after the other
at-append : {A : Type 0} (xs ys : List A) (i : ℕ) (a : A) → slice_get (xs ++ ys) i ≡ Some a →
    (slice_get xs i ≡ Some a) ⊎ ((j : ℕ) × (i ≡ length xs + j) × (slice_get ys j ≡ Some a))
at-append [] ys i a e = inr (i, omega arith, e)
at-append (x ∷ xs) ys zero a e = inl e
at-append (x ∷ xs) ys (suc i) a e = elim (at-append xs ys i a e) [ inl w ↦ inl w | inr w ↦ inr (w.0, omega (arith, w.1), w.2) ]

at_past : {A : Type 0} (xs ys : List A) (i : ℕ) (a : A) → slice_get ys i ≡ Some a → IsIn (xs ++ ys) a
at_past [] ys i a e = (i, e)
at_past (x ∷ xs) ys i a e = let w = at_past xs ys i a e in (suc w.0, w.1)

-- an element of one of the lists, and in which list an element is
pub in_flat : {A : Type 0} (xss : List (List A)) (j : ℕ) (xs : List A) (a : A) → slice_get xss j ≡ Some xs → IsIn xs a → IsIn (flat xss) a
in_flat [] j xs a at i = absurd (none-some xs at)
in_flat (ys ∷ xss) zero xs a at (i, at_i) = (i, at_before ys (flat xss) i a (ap (λ zs. slice_get zs i) (same_Some ys xs at) ∙ at_i))
in_flat (ys ∷ xss) (suc j) xs a at i = let w = in_flat xss j xs a at i in at_past ys (flat xss) w.0 a w.1

pub of_flat : {A : Type 0} (xss : List (List A)) (a : A) → IsIn (flat xss) a → (j : ℕ) × (xs : List A) × (slice_get xss j ≡ Some xs) × IsIn xs a
of_flat [] a i = absurd (none-some a i.1)
of_flat (xs ∷ xss) a (i, at) = elim (at-append xs (flat xss) i a at) [
  | inl w ↦ (zero, xs, refl, (i, w))
  | inr w ↦ (let u = of_flat xss a (w.0, w.2) in (suc u.0, u.1, u.2, u.3))
]

-- no element stands twice where none does in one list, nor in two
pub flat_distinct : {A : Type 0} (xss : List (List A)) → ((j : ℕ) (xs : List A) → slice_get xss j ≡ Some xs → Distinct xs) →
    ((i j : ℕ) (xs ys : List A) (a : A) → slice_get xss i ≡ Some xs → slice_get xss j ≡ Some ys → IsIn xs a → IsIn ys a → i ≡ j) → Distinct (flat xss)
flat_distinct [] each apart i j a at_i at_j = absurd (none-some a at_i)
flat_distinct {A} (xs ∷ xss) each apart i j a at_i at_j = elim (at-append xs (flat xss) i a at_i) [
  | inl first ↦ elim (at-append xs (flat xss) j a at_j) [
    | inl second ↦ each zero xs refl i j a first second
    | inr second ↦ absurd (other i first (second.0, second.2))
  ]
  | inr first ↦ elim (at-append xs (flat xss) j a at_j) [
    | inl second ↦ absurd (other j second (first.0, first.2))
    | inr second ↦ (let e = flat_distinct xss (λ k. each (suc k)) (λ k l us vs b at_u at_v in_u in_v. omega
        (arith, apart (suc k) (suc l) us vs b at_u at_v in_u in_v)) first.0 second.0 a first.2 second.2 in omega (arith, first.1, second.1, e))
  ]
]
  where
    other : (k : ℕ) → slice_get xs k ≡ Some a → IsIn (flat xss) a → ⊥
    other k here there = let u = of_flat xss a there in omega (arith, apart zero (suc u.0) xs u.1 a refl u.2 (k, here) u.3)

-- a sum over elements of how many each makes
pub total-map : {A B : Type 0} (f : A → List B) (xs : List A) → total (map f xs) ≡ sum_by (λ x. length (f x)) xs
total-map f [] = refl
total-map f (x ∷ xs) = omega (arith, sum_by_first length (f x) (map f xs), sum_by_first (λ y. length (f y)) x xs, total-map f xs)

pub sum_by-same : {A : Type 0} (f g : A → ℕ) (xs : List A) → ((x : A) → f x ≡ g x) → sum_by f xs ≡ sum_by g xs
sum_by-same f g [] same = refl
sum_by-same f g (x ∷ xs) same = omega (arith, sum_by_first f x xs, sum_by_first g x xs, same x, sum_by-same f g xs same)

-- a sum of numbers of 32 bits
pub sum_by-word : {A : Type 0} (f : A → ℕ) (xs : List A) → ((i : ℕ) (x : A) → slice_get xs i ≡ Some x → f x < 2 ^ 32) → sum_by f xs ≤ length xs * 4294967295
sum_by-word f [] small = omega arith
sum_by-word f (x ∷ xs) small = omega (arith, sum_by_first f x xs, small zero x refl, sum_by-word f xs (λ i y at. small (suc i) y at))
