-- Laws of the orders of directions, pushes, lists and solutions.
use Rattle.std.proofs.Common.{◌≡◌, ℕ, ◌+◌, ◌<◌, ◌≤◌, false, List, [], ◌∷◌, ◌++◌, length, ◌⊎◌, inl, inr, refl, sym}
use Rattle.std.proofs.Common.{ap, ◌∙◌, arith, Ordering, Less, Equal, Greater, nat_cmp, is_gt}
use Rattle.std.specs.Ordering.{ordering_then, ordering_reverse}
use Rattle.std.specs.Cmp.{IsTotalOrder}
use Rattle.std.specs.Cmp.Lexicographic.{slice_cmp}
use Rattle.std.proofs.lemmas.Bool.{cases_order, true≢false}
use Rattle.std.proofs.lemmas.Bool.Decides.{nat_tests}
use Rattle.std.proofs.lemmas.Cmp.{nat_cmp_total, on_total, then_total, lists_total, tied_itself}
use Rattle.std.proofs.lemmas.Map.Lookups.{CmpEqualImpliesEq, exact_unsigned}
use Rattle.std.proofs.lemmas.List.{length-append}
use Rattle.grid.specs.declared.dir.Dir.{Dir}
use Rattle.grid.specs.declared.square.Push.{Push}
use Rattle.grid.specs.Board.{Board, dir_cmp, push_cmp, dir_number}
use Rattle.grid.specs.Plays.{IsLeastSolution, shortlex}
use Rattle.grid.specs.Laws.{solution_cmp}
use Rattle.grid.proofs.lemmas.Directions.{dir_same}

-- ---- one order, then another

-- what two orders, one after the other, do not tell apart neither does
pub then-equal : (a b : Ordering) → ordering_then a b ≡ Equal → (a ≡ Equal) × (b ≡ Equal)
then-equal Less b e = absurd cc
then-equal Equal b e = (refl, e)
then-equal Greater b e = absurd cc

-- what comes after in neither of two orders does not in both, one after the other
pub then-not_gt : (a b : Ordering) → is_gt a ≡ false → is_gt b ≡ false → is_gt (ordering_then a b) ≡ false
then-not_gt Less b p q = refl
then-not_gt Equal b p q = q
then-not_gt Greater b p q = p

-- what comes first in two orders, one after the other, comes first in the first
pub then-first : (a b : Ordering) → is_gt (ordering_then a b) ≡ false → is_gt a ≡ false
then-first Less b e = refl
then-first Equal b e = refl
then-first Greater b e = e

-- three orders one after the other may be grouped either way
pub then-assoc : (a b c : Ordering) → ordering_then (ordering_then a b) c ≡ ordering_then a (ordering_then b c)
then-assoc Less b c = refl
then-assoc Equal b c = refl
then-assoc Greater b c = refl

-- what comes first in the first of two orders comes first in both, one after the other
pub then-less : (a b : Ordering) → a ≡ Less → ordering_then a b ≡ Less
then-less a b e = ap (λ (x : Ordering). ordering_then x b) e

-- ---- what the laws of an order give

-- of two that don't come after each other each is the other
pub same_since_tied : {K : Type 0} {C : K → K → Ordering} → IsTotalOrder C → CmpEqualImpliesEq C → (x y : K)
    → is_gt (C x y) ≡ false → is_gt (C y x) ≡ false
    → x ≡ y
same_since_tied {C = C} order exact x y p q = exact x y (tied (C x y) (C y x) (order.antisymm x y) p q)
  where
    tied : (a b : Ordering) → a ≡ ordering_reverse b → is_gt a ≡ false → is_gt b ≡ false → a ≡ Equal
    tied Less Less e f g = absurd cc
    tied Less Equal e f g = absurd cc
    tied Less Greater e f g = absurd (true≢false g)
    tied Equal b e f g = refl
    tied Greater b e f g = absurd (true≢false f)

-- of two, one does not come after the other
pub either_first : {K : Type 0} {C : K → K → Ordering} → IsTotalOrder C → (x y : K)
    → (is_gt (C x y) ≡ false) ⊎ (C y x ≡ Less)
either_first {C = C} order x y = first (C x y) (C y x) (order.antisymm y x)
  where
    first : (a b : Ordering) → b ≡ ordering_reverse a → (is_gt a ≡ false) ⊎ (b ≡ Less)
    first Less b e = inl refl
    first Equal b e = inl refl
    first Greater b e = inr e

-- what comes before something does not come after it
pub not_gt_since_less : (a : Ordering) → a ≡ Less → is_gt a ≡ false
not_gt_since_less Less e = refl
not_gt_since_less Equal e = refl
not_gt_since_less Greater e = absurd cc

-- what is tied does not come after
pub not_gt_since_equal : (a : Ordering) → a ≡ Equal → is_gt a ≡ false
not_gt_since_equal Less e = refl
not_gt_since_equal Equal e = refl
not_gt_since_equal Greater e = absurd cc

-- nothing comes after itself
pub not_gt_itself : {K : Type 0} {C : K → K → Ordering} → IsTotalOrder C → (x : K) → is_gt (C x x) ≡ false
not_gt_itself {C = C} order x = not_gt_since_equal (C x x) (tied_itself order x)

-- ---- numbers

-- the lesser number comes first
pub nat_cmp-less : (m n : ℕ) → m < n → nat_cmp m n ≡ Less
nat_cmp-less m n lt = grind (arith, nat_tests)

-- equal numbers are tied
pub nat_cmp-same : (m n : ℕ) → m ≡ n → nat_cmp m n ≡ Equal
nat_cmp-same m n e = grind (arith, nat_tests)

-- what does not come after a number is at most that
pub nat_cmp-not_gt : (m n : ℕ) → is_gt (nat_cmp m n) ≡ false → m ≤ n
nat_cmp-not_gt m n e = grind (arith, nat_tests)

-- ---- directions and pushes

abbrev push_of : ℕ → Dir → Push
push_of q d = record { square = q; dir = d }

-- directions are totally ordered
pub dir_cmp_total : IsTotalOrder dir_cmp
dir_cmp_total = on_total dir_number nat_cmp_total

-- and equal where the order does not tell them apart
pub dir_cmp_exact : CmpEqualImpliesEq dir_cmp
dir_cmp_exact d e h = dir_same d e (exact_unsigned (dir_number d) (dir_number e) h)

-- pushes are totally ordered
pub push_cmp_total : IsTotalOrder push_cmp
push_cmp_total = then_total (on_total (λ (p : Push). p.square) nat_cmp_total)
    (on_total (λ (p : Push). p.dir) dir_cmp_total)

-- and equal where the order does not tell them apart
pub push_cmp_exact : CmpEqualImpliesEq push_cmp
push_cmp_exact p q h =
    let both = then-equal (nat_cmp p.square q.square) (dir_cmp p.dir q.dir) h in
    let squares = exact_unsigned p.square q.square both.0 in
    let dirs = dir_cmp_exact p.dir q.dir both.1 in
    same_push squares dirs
  where
    same_push : {a b : ℕ} {d e : Dir} → a ≡ b → d ≡ e → push_of a d ≡ push_of b e
    same_push i j = cc

-- ---- lists

-- lists are equal where the order does not tell them apart
pub slice_cmp_exact : {K : Type 0} {C : K → K → Ordering} → CmpEqualImpliesEq C → CmpEqualImpliesEq (slice_cmp C)
slice_cmp_exact exact [] [] h = refl
slice_cmp_exact exact [] (y ∷ ys) h = absurd cc
slice_cmp_exact exact (x ∷ xs) [] h = absurd cc
slice_cmp_exact {C = C} exact (x ∷ xs) (y ∷ ys) h =
    let both = then-equal (C x y) (slice_cmp C xs ys) h in
    let heads = exact x y both.0 in
    let tails = slice_cmp_exact exact xs ys both.1 in
    cc (heads, tails)

-- fronts of one length are compared first
pub slice_cmp-append : {K : Type 0} (C : K → K → Ordering) (xs ys us vs : List K) → length xs ≡ length ys →
    slice_cmp C (xs ++ us) (ys ++ vs) ≡ ordering_then (slice_cmp C xs ys) (slice_cmp C us vs)
slice_cmp-append C [] [] us vs e = refl
slice_cmp-append C [] (y ∷ ys) us vs e = absurd (omega arith)
slice_cmp-append C (x ∷ xs) [] us vs e = absurd (omega arith)
slice_cmp-append C (x ∷ xs) (y ∷ ys) us vs e =
    ap (λ (o : Ordering). ordering_then (C x y) o) (slice_cmp-append C xs ys us vs (omega arith))
    ∙ sym (then-assoc (C x y) (slice_cmp C xs ys) (slice_cmp C us vs))

-- ---- the shorter list first

-- the order of lists by length first is total
pub shortlex_total : {K : Type 0} {C : K → K → Ordering} → IsTotalOrder C → IsTotalOrder (shortlex C)
shortlex_total order = then_total (on_total length nat_cmp_total) (lists_total order)

-- and lists are equal where it does not tell them apart
pub shortlex_exact : {K : Type 0} {C : K → K → Ordering} → CmpEqualImpliesEq C → CmpEqualImpliesEq (shortlex C)
shortlex_exact {C = C} exact xs ys h =
    slice_cmp_exact exact xs ys (then-equal (nat_cmp (length xs) (length ys)) (slice_cmp C xs ys) h).1

-- the shorter list comes first
pub shortlex-shorter : {K : Type 0} (C : K → K → Ordering) (xs ys : List K) → length xs < length ys
    → shortlex C xs ys ≡ Less
shortlex-shorter C xs ys lt = rw (nat_cmp-less (length xs) (length ys) lt) refl

-- no list comes before the empty one
pub shortlex-none : {K : Type 0} (C : K → K → Ordering) (xs : List K) → is_gt (shortlex C [] xs) ≡ false
shortlex-none C [] = refl
shortlex-none C (x ∷ xs) = not_gt_since_less _ (shortlex-shorter C [] (x ∷ xs) (omega arith))

-- lists of one length are compared element by element
pub shortlex-even : {K : Type 0} (C : K → K → Ordering) (xs ys : List K) → length xs ≡ length ys
    → shortlex C xs ys ≡ slice_cmp C xs ys
shortlex-even C xs ys e = rw (nat_cmp-same (length xs) (length ys) e) refl

-- what does not come after a list is no longer than it
pub shortlex-length : {K : Type 0} (C : K → K → Ordering) (xs ys : List K) → is_gt (shortlex C xs ys) ≡ false
    → length xs ≤ length ys
shortlex-length C xs ys h = nat_cmp-not_gt (length xs) (length ys)
    (then-first (nat_cmp (length xs) (length ys)) (slice_cmp C xs ys) h)

-- parts of one length each are compared one after the other
pub shortlex-append : {K : Type 0} (C : K → K → Ordering) (xs ys us vs : List K) → length xs ≡ length ys
    → length us ≡ length vs
    → shortlex C (xs ++ us) (ys ++ vs) ≡ ordering_then (shortlex C xs ys) (shortlex C us vs)
shortlex-append C xs ys us vs e f =
    shortlex-even C (xs ++ us) (ys ++ vs) (let a = length-append xs us in let b = length-append ys vs in omega arith)
    ∙ (slice_cmp-append C xs ys us vs e
    ∙ rw (shortlex-even C xs ys e, shortlex-even C us vs f) refl)

-- where neither part comes after the other list's, the whole does not
pub shortlex-append_not_gt : {K : Type 0} (C : K → K → Ordering) (xs ys us vs : List K)
    → is_gt (shortlex C xs ys) ≡ false → is_gt (shortlex C us vs) ≡ false
    → is_gt (shortlex C (xs ++ us) (ys ++ vs)) ≡ false
shortlex-append_not_gt C xs ys us vs p q = by_lengths (cases_order (length xs + length us) (length ys + length vs))
  where
    front : length xs ≤ length ys
    front = shortlex-length C xs ys p

    behind : length us ≤ length vs
    behind = shortlex-length C us vs q

    whole : length (xs ++ us) ≡ length xs + length us
    whole = length-append xs us

    other : length (ys ++ vs) ≡ length ys + length vs
    other = length-append ys vs

    by_lengths : (length xs + length us ≡ length ys + length vs) ⊎
        ((length xs + length us < length ys + length vs) ⊎ (length ys + length vs < length xs + length us))
        → is_gt (shortlex C (xs ++ us) (ys ++ vs)) ≡ false
    by_lengths (inl e) =
        rw (shortlex-append C xs ys us vs (omega (arith, front, behind)) (omega (arith, front, behind)))
        (then-not_gt (shortlex C xs ys) (shortlex C us vs) p q)
    by_lengths (inr (inl lt)) = rw (shortlex-shorter C (xs ++ us) (ys ++ vs) (omega (arith, whole, other))) refl
    by_lengths (inr (inr gt)) = absurd (omega (arith, front, behind))

-- ---- solutions

-- the order of solutions, of directions and pushes
abbrev pub pair_cmp : List Dir × List Push → List Dir × List Push → Ordering
pair_cmp x y = solution_cmp x.0 x.1 y.0 y.1

-- it is total
pub solution_cmp_total : IsTotalOrder pair_cmp
solution_cmp_total = then_total (on_total (λ (x : List Dir × List Push). x.1) (shortlex_total push_cmp_total))
    (on_total (λ (x : List Dir × List Push). x.0) (shortlex_total dir_cmp_total))

-- what it does not tell apart is equal
pub solution_cmp_exact : (ds es : List Dir) (ps qs : List Push) → solution_cmp ds ps es qs ≡ Equal
    → (ds ≡ es) × (ps ≡ qs)
solution_cmp_exact ds es ps qs h =
    let both = then-equal (shortlex push_cmp ps qs) (shortlex dir_cmp ds es) h in
    (shortlex_exact dir_cmp_exact ds es both.1, shortlex_exact push_cmp_exact ps qs both.0)

abbrev pair_of : List Dir → List Push → List Dir × List Push
pair_of ds ps = (ds, ps)

pair_cmp_exact : CmpEqualImpliesEq pair_cmp
pair_cmp_exact x y h =
    let both = solution_cmp_exact x.0 y.0 x.1 y.1 h in
    same_pair both.0 both.1
  where
    same_pair : {ds es : List Dir} {ps qs : List Push} → ds ≡ es → ps ≡ qs → pair_of ds ps ≡ pair_of es qs
    same_pair i j = cc

-- of two solutions one does not come after the other
pub solutions_either : (ds es : List Dir) (ps qs : List Push)
    → (is_gt (solution_cmp ds ps es qs) ≡ false) ⊎ (is_gt (solution_cmp es qs ds ps) ≡ false)
solutions_either ds es ps qs =
    elim (either_first solution_cmp_total (ds, ps) (es, qs)) [
      | inl e ↦ inl e
      | inr e ↦ inr (not_gt_since_less (solution_cmp es qs ds ps) e)
    ]

-- of two solutions that don't come after each other each is the other
pub same_solution : (ds es : List Dir) (ps qs : List Push) → is_gt (solution_cmp ds ps es qs) ≡ false
    → is_gt (solution_cmp es qs ds ps) ≡ false → (ds ≡ es) ×
    (ps ≡ qs)
same_solution ds es ps qs p q =
    let e = same_since_tied solution_cmp_total pair_cmp_exact (ds, ps) (es, qs) p q in
    (ap (λ (x : List Dir × List Push). x.0) e, ap (λ (x : List Dir × List Push). x.1) e)

-- there is one least solution
pub least_solution_same : (board : Board) (ds es : List Dir) (ps qs : List Push) → IsLeastSolution board ds ps
    → IsLeastSolution board es qs → (ds ≡ es) ×
    (ps ≡ qs)
least_solution_same board ds es ps qs one two = same_solution ds es ps qs (one.1 es qs two.0) (two.1 ds ps one.0)
