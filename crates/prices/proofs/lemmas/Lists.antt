-- Lists, place by place.
use Rattle.std.proofs.Common.{◌≡◌, ◌∙◌, ℕ, zero, suc, ◌+◌, ◌<◌, List, [], ◌∷◌, length, get_or, Some, refl, sym, subst}
use Rattle.std.proofs.Common.{ap, arith}
use Rattle.std.proofs.lemmas.Option.{same_Some, slice_get_read}
use Rattle.std.specs.Prelude.{slice_get}
use Rattle.prices.proofs.lemmas.Looks.{below_next}

-- a place before the end has an element
pub in_range : {A : Type 0} (xs : List A) (i : ℕ) → i < length xs → (x : A) × (slice_get xs i ≡ Some x)
in_range [] i lt = absurd (omega (arith, lt))
in_range (x ∷ xs) zero lt = (x, refl)
in_range (x ∷ xs) (suc i) lt = in_range xs i (omega (arith, lt))

-- the element at a place of a list that was read
pub read_element : {A : Type 0} (xs ys : List A) (i : ℕ) (x : A) → xs ≡ ys → i < length xs → x ≡ get_or xs i x →
    slice_get ys i ≡ Some x
read_element {A} xs ys i x same lt is =
    subst (λ (zs : List A). slice_get zs i ≡ Some x) same (slice_get_read xs (length xs) i x refl lt is)

-- so it is where the index is below the length that was read before, and what has the list is still the same
pub read_again : {A V : Type 0} (list : V → List A) (old new : V) (first xs : List A) (i : ℕ) (x : A) →
    first ≡ list old → new ≡ old → xs ≡ list new → i < length first → x ≡ get_or xs i x →
    slice_get (list new) i ≡ Some x
read_again {V = V} list old new first xs i x before same now lt is =
    let a = ap length before in
    let b = ap (λ (v : V). length (list v)) same in
    let c = ap length now in
    read_element xs (list new) i x now (omega (arith, a, b, c, lt)) is

-- what holds of the first elements and of the next one holds of one more
pub upto_more : {A : Type 0} (P : A → Type 0) (xs : List A) (i : ℕ) (x : A) → slice_get xs i ≡ Some x →
    ((j : ℕ) (y : A) → j < i → slice_get xs j ≡ Some y → P y) → P x →
    (j : ℕ) (y : A) → j < i + 1 → slice_get xs j ≡ Some y → P y
upto_more {A} P xs i x here before now j y lt there = below_next (λ (k : ℕ). (z : A) → slice_get xs k ≡ Some z → P z) i
    (λ k less z. before k z less) (λ z at. subst P (same_Some x z (sym here ∙ at)) now) j lt y there
