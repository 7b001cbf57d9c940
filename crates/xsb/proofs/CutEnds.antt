-- Lists without what stands at their ends: rows without floor, and their padding.
use Rattle.std.proofs.Common.{◌≡◌, ℕ, zero, suc, ◌-◌, ◌<◌, ◌≤◌, Bool, true, false, List, [], ◌∷◌, ◌++◌, length, replicate, take, min, refl, sym, ap, ◌∙◌, arith}
use Rattle.std.proofs.Common.{length-append}
use Rattle.std.specs.List.{AllByRecursion}
use Rattle.grid.specs.declared.cell.Cell.{Cell}
use Rattle.grid.specs.declared.cell.Cell.TheVariants.{Wall, Floor, Goal, Box, BoxOnGoal, Player, PlayerOnGoal}
use Rattle.xsb.specs.Boards.{before_rest, cut_end, is_floor, cut_row, padded}

-- what is cut off at the end does not matter to what stands before it
pub cut_end-blank : {A : Type 0} (test : A → Bool) (xs ys : List A) → AllByRecursion (λ y. test y ≡ true) ys → cut_end test (xs ++ ys) ≡ cut_end test xs
cut_end-blank test [] [] all = refl
cut_end-blank test [] (y ∷ ys) all = ap (λ r. before_rest (test y) y r) (cut_end-blank test [] ys all.1) ∙ ap (λ t. before_rest t y []) all.0
cut_end-blank test (x ∷ xs) ys all = ap (λ r. before_rest (test x) x r) (cut_end-blank test xs ys all)

before-some : {A : Type 0} (t : Bool) (x : A) (ys : List A) → 0 < length ys → before_rest t x ys ≡ x ∷ ys
before-some true x [] some = absurd (omega arith)
before-some true x (y ∷ ys) some = refl
before-some false x ys some = refl

-- before what is not cut off nothing is cut off
pub cut_end-kept : {A : Type 0} (test : A → Bool) (xs ys : List A) → 0 < length ys → cut_end test ys ≡ ys → cut_end test (xs ++ ys) ≡ xs ++ ys
cut_end-kept test [] ys some e = e
cut_end-kept test (x ∷ xs) ys some e =
    let long : 0 < length (xs ++ ys) = omega (arith, length-append xs ys) in
    ap (λ r. before_rest (test x) x r) (cut_end-kept test xs ys some e) ∙ before-some (test x) x (xs ++ ys) long

pub cut_end-replicate : {A : Type 0} (test : A → Bool) (n : ℕ) (x : A) → test x ≡ false → cut_end test (replicate n x) ≡ replicate n x
cut_end-replicate test zero x e = refl
cut_end-replicate test (suc n) x e = ap (λ r. before_rest (test x) x r) (cut_end-replicate test n x e) ∙ ap (λ t. before_rest t x (replicate n x)) e

pub AllByRecursion-replicate : {A : Type 0} (test : A → Bool) (n : ℕ) (x : A) → test x ≡ true → AllByRecursion (λ y. test y ≡ true) (replicate n x)
AllByRecursion-replicate test zero x e = tt
AllByRecursion-replicate test (suc n) x e = (e, AllByRecursion-replicate test n x e)

before-length : {A : Type 0} (t : Bool) (x : A) (ys : List A) → length (before_rest t x ys) ≤ suc (length ys)
before-length true x [] = omega arith
before-length true x (y ∷ ys) = omega arith
before-length false x ys = omega arith

pub length-cut_end : {A : Type 0} (test : A → Bool) (xs : List A) → length (cut_end test xs) ≤ length xs
length-cut_end test [] = omega arith
length-cut_end test (x ∷ xs) = let more = length-cut_end test xs in let b = before-length (test x) x (cut_end test xs) in omega arith

is_floor-true : (c : Cell) → is_floor c ≡ true → c ≡ Floor
is_floor-true Wall e = cc
is_floor-true Floor e = refl
is_floor-true Goal e = cc
is_floor-true Box e = cc
is_floor-true BoxOnGoal e = cc
is_floor-true Player e = cc
is_floor-true PlayerOnGoal e = cc

-- the first cells of a row, and floor where it is shorter
abbrev pub filled : ℕ → List Cell → List Cell
filled cols row = take cols row ++ replicate (cols - length row) Floor

padded-more : (cols : ℕ) (t : Bool) (c : Cell) (cut : List Cell) → is_floor c ≡ t → length (before_rest t c cut) ≤ suc cols →
    (c ∷ (cut ++ replicate (cols - length cut) Floor)) ≡ before_rest t c cut ++ replicate (suc cols - length (before_rest t c cut)) Floor
padded-more cols true c [] e le =
    let same : cols - 0 ≡ cols = omega arith in let other : suc cols - 0 ≡ suc cols = omega arith in
    rw (other, same, is_floor-true c e) refl
padded-more cols true c (d ∷ cut) e le = let same : suc cols - suc (suc (length cut)) ≡ cols - suc (length cut) = omega arith in rw same refl
padded-more cols false c cut e le = let same : suc cols - suc (length cut) ≡ cols - length cut = omega arith in rw same refl

before-none : {A : Type 0} (t : Bool) (x : A) (ys : List A) → length (before_rest t x ys) ≤ 0 → (length ys ≡ 0) × (before_rest t x ys ≡ [])
before-none true x [] le = (refl, refl)
before-none true x (y ∷ ys) le = absurd (omega arith)
before-none false x ys le = absurd (omega arith)

before-shorter : {A : Type 0} (t : Bool) (x : A) (ys : List A) (n : ℕ) → length (before_rest t x ys) ≤ suc n → length ys ≤ n
before-shorter true x [] n le = omega arith
before-shorter true x (y ∷ ys) n le = omega arith
before-shorter false x ys n le = omega arith

-- a row that is no longer than the columns without the floor at its end is padded so
pub filled-padded : (cols : ℕ) (row : List Cell) → length (cut_row row) ≤ cols → filled cols row ≡ padded cols row
filled-padded zero [] le = refl
filled-padded (suc cols) [] le = refl
filled-padded zero (c ∷ row) le =
    let none = before-none (is_floor c) c (cut_row row) le in let e = none.1 in
    let same : 0 - suc (length row) ≡ 0 = omega arith in
    rw (e, same) refl
filled-padded (suc cols) (c ∷ row) le =
    let short = before-shorter (is_floor c) c (cut_row row) cols le in
    let same : suc cols - suc (length row) ≡ cols - length row = omega arith in
    rw same (ap (λ r. c ∷ r) (filled-padded cols row short) ∙ padded-more cols (is_floor c) c (cut_row row) refl le)

pub take-nil : {A : Type 0} (n : ℕ) → take {A = A} n [] ≡ []
take-nil zero = refl
take-nil (suc n) = refl

pub take-zero : {A : Type 0} (xs : List A) → take 0 xs ≡ []
take-zero [] = refl
take-zero (x ∷ xs) = refl

take-replicate_min : {A : Type 0} (cols m n : ℕ) (x : A) → n ≡ min m cols → take cols (replicate m x) ≡ replicate n x
take-replicate_min zero m n x e = let none : n ≡ 0 = omega arith in rw none (take-zero (replicate m x))
take-replicate_min (suc cols) zero n x e = let none : n ≡ 0 = omega arith in rw none refl
take-replicate_min (suc cols) (suc m) zero x e = absurd (omega arith)
take-replicate_min (suc cols) (suc m) (suc n) x e = ap (λ r. x ∷ r) (take-replicate_min cols m n x (omega arith))

-- the first cells of a list and as many copies of a cell as there is still room for
pub take-more : {A : Type 0} (cols : ℕ) (front : List A) (m n : ℕ) (x : A) → n ≡ min m (cols - length front) →
    take cols (front ++ replicate m x) ≡ take cols front ++ replicate n x
take-more cols [] m n x e = take-replicate_min cols m n x (omega arith) ∙ ap (λ t. t ++ replicate n x) (sym (take-nil cols))
take-more zero (y ∷ front) m n x e = let none : n ≡ 0 = omega arith in rw none refl
take-more (suc cols) (y ∷ front) m n x e = ap (λ r. y ∷ r) (take-more cols front m n x (omega arith))

-- a blank at the end is cut off
pub cut_end-last_blank : {A : Type 0} (test : A → Bool) (xs ys : List A) (y : A) → xs ≡ ys ++ y ∷ [] → test y ≡ true → cut_end test ys ≡ cut_end test xs
cut_end-last_blank test xs ys y e is = sym (cut_end-blank test ys (y ∷ []) (is, tt)) ∙ ap (cut_end test) (sym e)

-- before another element nothing is cut off
pub cut_end-last_other : {A : Type 0} (test : A → Bool) (xs ys : List A) (y : A) → xs ≡ ys ++ y ∷ [] → test y ≡ false → cut_end test xs ≡ xs
cut_end-last_other test xs ys y e is =
    ap (cut_end test) e ∙ cut_end-kept test ys (y ∷ []) (omega arith) (ap (λ t. before_rest t y []) is) ∙ sym e
