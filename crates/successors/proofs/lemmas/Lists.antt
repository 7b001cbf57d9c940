-- Lists by their places: one more element at the end, lists without repetition, lists in a strict order.
use Rattle.std.proofs.Common.{◌≡◌, ℕ, zero, suc, ◌+◌, ◌-◌, ◌<◌, Bool, true, false, cond, List, [], ◌∷◌, ◌++◌, length}
use Rattle.std.proofs.Common.{sum, sum_by, count_by, fold, ◌||◌, get_or, set, take, replicate, Bor, Result, Ok, Err}
use Rattle.std.proofs.Common.{is_ok, is_err, if◌then◌else◌, Some, None, ◌⊎◌, inl, inr, refl, sym, ap, subst, ◌∙◌, arith}
use Rattle.std.proofs.Common.{map, ◌≤◌, ◌≢◌}
use Rattle.std.proofs.lemmas.Option.{same_Some, none-some, slice_get_read, slice_get_past}
use Rattle.std.specs.Prelude.{slice_get}
use Rattle.std.specs.List.{list_any}
use Rattle.std.specs.Slice.{IsItemAt}
use Rattle.std.proofs.lemmas.Bool.{or_right}
use Rattle.std.proofs.Math.Seq.{take-nil}
use Rattle.successors.specs.Layered.{IsIn}

-- each stands before those after it
abbrev pub Rises : {A : Type 0} → (A → A → Type 0) → List A → Type 0
Rises {A} Lt xs = (i j : ℕ) (a b : A) → i < j → slice_get xs i ≡ Some a → slice_get xs j ≡ Some b → Lt a b

module _ {A : Type 0} {Lt : A → A → Type 0} (asym : (a b : A) → Lt a b → Lt b a → ⊥) where
  -- the heads of two such lists with the same members are equal
  same_heads : (x y : A) (xs ys : List A) → Rises Lt (x ∷ xs) → Rises Lt (y ∷ ys) → IsIn (y ∷ ys) x → IsIn (x ∷ xs) y
      → x ≡ y
  same_heads x y xs ys rx ry (zero, e) there = sym (same_Some y x e)
  same_heads x y xs ys rx ry (suc i, e) (zero, f) = same_Some x y f
  same_heads x y xs ys rx ry (suc i, e) (suc j, f) =
      absurd (asym x y (rx zero (suc j) x y (omega arith) refl f) (ry zero (suc i) y x (omega arith) refl e))

  -- a member of the tail is a member of the other tail, where the heads are equal
  in_tail : (x y a : A) (xs ys : List A) → Rises Lt (x ∷ xs) → x ≡ y → IsIn xs a → IsIn (y ∷ ys) a → IsIn ys a
  in_tail x y a xs ys rx e (i, at) (zero, f) =
      let a_is : x ≡ a = e ∙ same_Some y a f in
      let lt = rx zero (suc i) x a (omega arith) refl at in
      absurd (asym x x (subst (Lt x) (sym a_is) lt) (subst (Lt x) (sym a_is) lt))
  in_tail x y a xs ys rx e (i, at) (suc j, f) = (j, f)

  pub same_lists : (xs ys : List A) → Rises Lt xs → Rises Lt ys → ((a : A) → IsIn xs a → IsIn ys a)
      → ((a : A) → IsIn ys a → IsIn xs a) → xs ≡ ys
  same_lists [] [] rx ry f g = refl
  same_lists [] (y ∷ ys) rx ry f g = let w = g y (zero, refl) in absurd (none-some y w.1)
  same_lists (x ∷ xs) [] rx ry f g = let w = f x (zero, refl) in absurd (none-some x w.1)
  same_lists (x ∷ xs) (y ∷ ys) rx ry f g =
      let e = same_heads x y xs ys rx ry (f x (zero, refl)) (g y (zero, refl)) in
      let rest = same_lists xs ys (λ i j a b lt at_a at_b. rx (suc i) (suc j) a b (omega arith) at_a at_b)
      (λ i j a b lt at_a at_b. ry (suc i) (suc j) a b (omega arith) at_a at_b)
      (λ a at. in_tail x y a xs ys rx e at (f a (suc at.0, at.1)))
      (λ a at. in_tail y x a ys xs ry (sym e) at (g a (suc at.0, at.1))) in
      λ i. e i ∷ rest i

-- ---- one more element at the end

pub at_before : {A : Type 0} (xs ys : List A) (i : ℕ) (a : A) → slice_get xs i ≡ Some a
    → slice_get (xs ++ ys) i ≡ Some a
at_before [] ys i a e = cc
at_before (x ∷ xs) ys zero a e = e
at_before (x ∷ xs) ys (suc i) a e = at_before xs ys i a e

pub at_seam : {A : Type 0} (xs : List A) (y : A) → slice_get (xs ++ y ∷ []) (length xs) ≡ Some y
at_seam [] y = refl
at_seam (x ∷ xs) y = at_seam xs y

pub at-push : {A : Type 0} (xs : List A) (y : A) (i : ℕ) (a : A) → slice_get (xs ++ y ∷ []) i ≡ Some a
    → (slice_get xs i ≡ Some a) ⊎ ((i ≡ length xs) × (a ≡ y))
at-push [] y zero a e = inr (refl, sym (same_Some y a e))
at-push [] y (suc i) a e = cc
at-push (x ∷ xs) y zero a e = inl e
at-push (x ∷ xs) y (suc i) a e = elim (at-push xs y i a e) [ inl w ↦ inl w | inr w ↦ inr (ap suc w.0, w.1) ]

-- ---- lists without repetition

-- no element stands twice
abbrev pub Distinct : {A : Type 0} → List A → Type 0
Distinct {A} xs = (i j : ℕ) (a : A) → slice_get xs i ≡ Some a → slice_get xs j ≡ Some a → i ≡ j

pub distinct_push : {A : Type 0} (xs : List A) (y : A) → Distinct xs → ¬ (IsIn xs y) → Distinct (xs ++ y ∷ [])
distinct_push xs y distinct new i j a at_i at_j = grind (arith, at-push)

-- ---- sums and counts after one write

sum_by_from : {A : Type 0} (f : A → ℕ) (n : ℕ) (xs : List A) → fold (λ a x. a + f x) n xs ≡ n + sum_by f xs
sum_by_from f n [] = omega arith
sum_by_from f n (x ∷ xs) = omega (arith, sum_by_from f (n + f x) xs, sum_by_from f (0 + f x) xs)

pub sum_by_first : {A : Type 0} (f : A → ℕ) (x : A) (xs : List A) → sum_by f (x ∷ xs) ≡ f x + sum_by f xs
sum_by_first f x xs = omega (arith, sum_by_from f (0 + f x) xs)

pub sum-set_more : (xs : List ℕ) (i : ℕ) → i < length xs → sum (set xs i (suc (get_or xs i 0))) ≡ suc (sum xs)
sum-set_more [] i lt = absurd (omega arith)
sum-set_more (x ∷ xs) zero lt = omega (arith, sum_by_first (λ y. y) (suc x) xs, sum_by_first (λ y. y) x xs)
sum-set_more (x ∷ xs) (suc i) lt = omega (
  arith,
  sum_by_first (λ y. y) x (set xs i (suc (get_or xs i 0))),
  sum_by_first (λ y. y) x xs,
  sum-set_more xs i (omega arith),
)

pub count-set_true : (bs : List Bool) (i : ℕ) → slice_get bs i ≡ Some false
    → count_by (λ b. b) (set bs i true) ≡ suc (count_by (λ b. b) bs)
count-set_true [] i e = cc
count-set_true (b ∷ bs) zero e = let f : b ≡ false = same_Some b false e in
    omega (
      arith,
      sum_by_first (λ c. cond c 1 0) true bs,
      sum_by_first (λ c. cond c 1 0) b bs,
      ap {B = ℕ}
          (λ c. cond c 1 0) f,
    )
count-set_true (b ∷ bs) (suc i) e =
    omega (
      arith,
      sum_by_first (λ c. cond c 1 0) b (set bs i true),
      sum_by_first
          (λ c. cond c 1 0) b bs,
      count-set_true bs i e,
    )

pub count-all : (bs : List Bool) → ((i : ℕ) (b : Bool) → slice_get bs i ≡ Some b → b ≡ true)
    → count_by (λ b. b) bs ≡ length bs
count-all [] all = refl
count-all (b ∷ bs) all = omega (
  arith,
  sum_by_first (λ c. cond c 1 0) b bs,
  ap {B = ℕ} (λ c. cond c 1 0) (all zero b refl),
  count-all bs (λ i c at. all (suc i) c at),
)

-- ---- tests on some element

pub any-find : {A : Type 0} (test : A → Bool) (xs : List A) → list_any test xs ≡ true
    → (i : ℕ) × (x : A) × (slice_get xs i ≡ Some x) × (test x ≡ true)
any-find test [] e = cc
any-find {A} test (x ∷ xs) e = go (test x) refl e (any-find test xs)
  where
    go : (b : Bool) → test x ≡ b → (b || list_any test xs) ≡ true →
        (list_any test xs ≡ true → (i : ℕ) × (y : A) × (slice_get xs i ≡ Some y) × (test y ≡ true))
        → (i : ℕ) × (y : A) × (slice_get (x ∷ xs) i ≡ Some y) ×
        (test y ≡ true)
    go true f g t = (zero, x, refl, f)
    go false f g t = let w = t g in (suc w.0, w.1, w.2, w.3)

pub any-here : {A : Type 0} (test : A → Bool) (xs : List A) (i : ℕ) (x : A) → slice_get xs i ≡ Some x → test x ≡ true
    → list_any test xs ≡ true
any-here test [] i x e f = cc
any-here test (y ∷ xs) zero x e f = ap (λ b. b || list_any test xs) (ap test (same_Some y x e) ∙ f)
any-here test (y ∷ xs) (suc i) x e f = or_right (test y) (list_any test xs) (any-here test xs i x e f)

-- ---- what `get` of a slice answers

pub get_some : {A : Type 0} (xs : List A) (i : ℕ) (x : Bor A) → IsItemAt xs i (Some x) → slice_get xs i ≡ Some x.now
get_some xs i x h = slice_get_read xs (length xs) i x.now refl h.3.0 h.1

pub get_none : {A : Type 0} (xs : List A) (i : ℕ) → IsItemAt xs i None → slice_get xs i ≡ None
get_none xs i h = slice_get_past xs i h.3

-- ---- a list that was empty, resized

pub resized : {A U E : Type 0} (r : Result U E) (n m : ℕ) (a : A) (old new : List A) → old ≡ [] → m ≡ length old
    → false ≡ is_err r
    → new ≡ (if is_ok r then take n old ++ replicate (n - m) a else old) → new ≡ replicate n a
resized {A} (Ok u) n m a old new none long ok e = grind (arith, take-nil)
resized (Err x) n m a old new none long ok e = cc

-- ---- parts of lists, and lists of values

pub take_at : {A : Type 0} (xs : List A) (n i : ℕ) (a : A) → slice_get (take n xs) i ≡ Some a
    → (slice_get xs i ≡ Some a) × (i < n)
take_at [] zero i a e = cc
take_at [] (suc n) i a e = cc
take_at (x ∷ xs) zero i a e = cc
take_at (x ∷ xs) (suc n) zero a e = (e, omega arith)
take_at (x ∷ xs) (suc n) (suc i) a e = let w = take_at xs n i a e in (w.0, omega (arith, w.1))

-- what stands at a place of a list stands there in its front
pub at_take : {A : Type 0} (xs : List A) (n i : ℕ) (a : A) → i < n → slice_get xs i ≡ Some a
    → slice_get (take n xs) i ≡ Some a
at_take [] n i a lt at = cc
at_take (x ∷ xs) zero i a lt at = absurd (omega (arith, lt))
at_take (x ∷ xs) (suc n) zero a lt at = at
at_take (x ∷ xs) (suc n) (suc i) a lt at = at_take xs n i a (omega (arith, lt)) at

pub take_push : {A : Type 0} (xs : List A) (n : ℕ) (a : A) → slice_get xs n ≡ Some a
    → take (suc n) xs ≡ take n xs ++ a ∷ []
take_push [] n a e = cc
take_push (x ∷ xs) zero a e = ap (λ y. y ∷ []) (same_Some x a e)
take_push (x ∷ xs) (suc n) a e = ap (λ ys. x ∷ ys) (take_push xs n a e)

pub map-push : {A B : Type 0} (f : A → B) (xs : List A) (a : A) → map f (xs ++ a ∷ []) ≡ map f xs ++ f a ∷ []
map-push f [] a = refl
map-push f (x ∷ xs) a = ap (λ ys. f x ∷ ys) (map-push f xs a)

-- what stands at a place of a mapped list comes from what stands there
pub at_map : {A B : Type 0} (f : A → B) (xs : List A) (r : ℕ) (b : B) → slice_get (map f xs) r ≡ Some b
    → (x : A) × (slice_get xs r ≡ Some x) × (f x ≡ b)
at_map f [] r b e = cc
at_map f (x ∷ xs) zero b e = (x, refl, cc)
at_map f (x ∷ xs) (suc r) b e = at_map f xs r b e

pub map_at : {A B : Type 0} (f : A → B) (xs : List A) (r : ℕ) (x : A) → slice_get xs r ≡ Some x
    → slice_get (map f xs) r ≡ Some (f x)
map_at f [] r x e = cc
map_at f (y ∷ xs) zero x e = cc
map_at f (y ∷ xs) (suc r) x e = map_at f xs r x e

-- ---- one element written

pub set_here : {A : Type 0} (xs : List A) (s : ℕ) (y : A) → s < length xs → slice_get (set xs s y) s ≡ Some y
set_here [] s y lt = absurd (omega (arith, lt))
set_here (x ∷ xs) zero y lt = refl
set_here (x ∷ xs) (suc s) y lt = set_here xs s y (omega (arith, lt))

pub set_there : {A : Type 0} (xs : List A) (s t : ℕ) (y : A) → t ≢ s → slice_get (set xs s y) t ≡ slice_get xs t
set_there [] s t y ne = refl
set_there (x ∷ xs) zero zero y ne = absurd (ne refl)
set_there (x ∷ xs) zero (suc t) y ne = refl
set_there (x ∷ xs) (suc s) zero y ne = refl
set_there (x ∷ xs) (suc s) (suc t) y ne = set_there xs s t y (λ e. ne (ap suc e))

-- an element after that is the written one, or was there before
pub set_at : {A : Type 0} (xs : List A) (s t : ℕ) (y z : A) → slice_get (set xs s y) t ≡ Some z
    → ((t ≡ s) × (z ≡ y)) ⊎ ((t ≢ s) × (slice_get xs t ≡ Some z))
set_at [] s t y z at = absurd (none-some z at)
set_at (x ∷ xs) zero zero y z at = inl (refl, sym (same_Some y z at))
set_at (x ∷ xs) zero (suc t) y z at = inr ((λ e. omega (arith, e)), at)
set_at (x ∷ xs) (suc s) zero y z at = inr ((λ e. omega (arith, e)), at)
set_at (x ∷ xs) (suc s) (suc t) y z at = grind (arith, set_at xs s t y z at)

-- ---- what holds of each element

pub each_set : {A : Type 0} (P : A → Type 0) (xs : List A) (s : ℕ) (y : A) → P y
    → ((t : ℕ) (z : A) → slice_get xs t ≡ Some z → P z) → (t : ℕ) (z : A) → slice_get (set xs s y) t ≡ Some z → P z
each_set P xs s y new each t z at =
    elim (set_at xs s t y z at) [ inl same ↦ subst P (sym same.1) new | inr other ↦ each t z other.1 ]

pub each_push : {A : Type 0} (P : A → Type 0) (xs : List A) (y : A) → P y
    → ((t : ℕ) (z : A) → slice_get xs t ≡ Some z → P z) → (t : ℕ) (z : A) → slice_get (xs ++ y ∷ []) t ≡ Some z → P z
each_push P xs y new each t z at =
    elim (at-push xs y t z at) [ inl old ↦ each t z old | inr same ↦ subst P (sym same.1) new ]

pub take_short : {A : Type 0} (xs : List A) (n : ℕ) → length xs ≤ n → take n xs ≡ xs
take_short [] zero le = refl
take_short [] (suc n) le = refl
take_short (x ∷ xs) zero le = absurd (omega arith)
take_short (x ∷ xs) (suc n) le = ap (λ zs. x ∷ zs) (take_short xs n (omega arith))
