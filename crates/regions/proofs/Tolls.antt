-- The code's sums are what boxes need under tolls.
use Rattle.std.proofs.Common.{◌≡◌, ◌+◌, ◌<◌, ◌≤◌, ℕ, zero, suc, Bool, true, cond, eq-eqb, min, List, [], ◌∷◌, ◌++◌, length, length-append, get_or}
use Rattle.std.proofs.Common.{refl, sym, ap, subst, ◌∙◌, arith}
use Rattle.std.proofs.lemmas.Bool.{ne_eqb}
use Rattle.grid.specs.Squares.{contains}
use Rattle.grid.specs.Rising.{rises_from, is_rising}
use Rattle.grid.proofs.lemmas.Squares.{contains_head, contains-from, contains_tail, rises_from-parts}
use Rattle.prices.specs.declared.pulls.TheConstants.{NEVER}
use Rattle.prices.specs.Prices.{goals_of, least_of, sum_over}
use Rattle.prices.specs.inside.Sums.{greatest}
use Rattle.prices.specs.inside.Tables.{far_in, place_in, row_in}
use Rattle.prices.specs.inside.Views.{DistancesView}
use Rattle.prices.proofs.lemmas.Goals.{contains-goals, is_rising-goals}
use Rattle.prices.proofs.lemmas.Tables.{place_inside}
use Rattle.regions.specs.Regions.{CanCome}
use Rattle.regions.specs.inside.Needs.{AreNeeds, least_to, need_from, need_under, price_of, sum_to}

-- ---- numbers of goals, and numbers by places

-- the first square is at place 0, the others one place further
place_first : (g : ℕ) (gs : List ℕ) → place_in (g ∷ gs) g ≡ 0
place_first g gs = ap (λ (e : Bool). cond e 0 (suc (place_in gs g))) (eq-eqb g g refl)

place_later : (g : ℕ) (gs : List ℕ) (x : ℕ) → rises_from (suc g) gs ≡ true → contains gs x ≡ true → place_in (g ∷ gs) x ≡ suc (place_in gs x)
place_later g gs x rises there =
    let from = contains-from (suc g) gs x rises there in
    ap (λ (e : Bool). cond e 0 (suc (place_in gs x))) (ne_eqb g x (λ e. omega (arith, e, from)))

least_same : (c d : ℕ → ℕ) (cap : ℕ) (gs : List ℕ) → ((g : ℕ) → contains gs g ≡ true → c g ≡ d g) → least_of c cap gs ≡ least_of d cap gs
least_same c d cap [] same = refl
least_same c d cap (g ∷ gs) same =
    let here = same g (contains_head g gs) in
    let rest = least_same c d cap gs (λ x there. same x (contains_tail g gs x there)) in
    omega (arith, here, rest)

least_first : (f : ℕ → ℕ) (cap n : ℕ) → least_to f cap (suc n) ≡ min (f 0) (least_to (λ i. f (suc i)) cap n)
least_first f cap zero = refl
least_first f cap (suc n) = let e = least_first f cap n in omega (arith, e)

least_by_place : (f : ℕ → ℕ) (cap k : ℕ) (gs : List ℕ) → rises_from k gs ≡ true → least_of (λ g. f (place_in gs g)) cap gs ≡ least_to f cap (length gs)
least_by_place f cap k [] rises = refl
least_by_place f cap k (g ∷ gs) rises =
    let parts = rises_from-parts k g gs rises in
    let here : f (place_in (g ∷ gs) g) ≡ f 0 = ap f (place_first g gs) in
    let others = least_same (λ x. f (place_in (g ∷ gs) x)) (λ x. f (suc (place_in gs x))) cap gs
    (λ x there. ap f (place_later g gs x parts.1 there)) in
    let rest = least_by_place (λ i. f (suc i)) cap (suc g) gs parts.1 in
    let first = least_first f cap (length gs) in
    omega (arith, here, others, rest, first)

sum_same : (c d : ℕ → ℕ) (gs : List ℕ) → ((g : ℕ) → contains gs g ≡ true → c g ≡ d g) → sum_over c gs ≡ sum_over d gs
sum_same c d [] same = refl
sum_same c d (g ∷ gs) same =
    let here = same g (contains_head g gs) in
    let rest = sum_same c d gs (λ x there. same x (contains_tail g gs x there)) in
    omega (arith, here, rest)

sum_first : (f : ℕ → ℕ) (n : ℕ) → sum_to f (suc n) ≡ f 0 + sum_to (λ i. f (suc i)) n
sum_first f zero = refl
sum_first f (suc n) = let e = sum_first f n in omega (arith, e)

sum_by_place : (f : ℕ → ℕ) (k : ℕ) (gs : List ℕ) → rises_from k gs ≡ true → sum_over (λ g. f (place_in gs g)) gs ≡ sum_to f (length gs)
sum_by_place f k [] rises = refl
sum_by_place f k (g ∷ gs) rises =
    let parts = rises_from-parts k g gs rises in
    let here : f (place_in (g ∷ gs) g) ≡ f 0 = ap f (place_first g gs) in
    let others = sum_same (λ x. f (place_in (g ∷ gs) x)) (λ x. f (suc (place_in gs x))) gs
    (λ x there. ap f (place_later g gs x parts.1 there)) in
    let rest = sum_by_place (λ i. f (suc i)) (suc g) gs parts.1 in
    let first = sum_first f (length gs) in
    omega (arith, here, others, rest, first)

-- ---- what the code finds

pub need_is : (v : DistancesView) (tolls row : List ℕ) (b p count n : ℕ) → v.table.goals.items ≡ goals_of v.level → row ≡ row_in v.table b p
    → count ≡ length (goals_of v.level) → n ≡ least_to (λ i. get_or row i 0 + get_or tolls i 0) greatest count → n ≡ need_under v tolls b p
need_is v tolls row b p count n goals is counted found =
    let gs = v.table.goals.items in
    let f : ℕ → ℕ = λ i. get_or (row_in v.table b p) i 0 + get_or tolls i 0 in
    let rises : is_rising gs ≡ true = ap (λ (xs : List ℕ). is_rising xs) goals ∙ is_rising-goals v.level in
    let all : least_to (λ i. get_or row i 0 + get_or tolls i 0) greatest count ≡ least_to f greatest (length gs) =
    ap (λ (xs : List ℕ). least_to (λ i. get_or xs i 0 + get_or tolls i 0) greatest count) is
    ∙ ap (λ (k : ℕ). least_to f greatest k) (counted ∙ ap (λ (xs : List ℕ). length xs) (sym goals)) in
    found ∙ (all ∙ (sym (least_by_place f greatest 0 gs rises)
    ∙ ap (λ (xs : List ℕ). least_of (λ g. f (place_in gs g)) greatest xs) goals))

least_most : (f : ℕ → ℕ) (cap n : ℕ) → least_to f cap n ≤ cap
least_most f cap zero = omega arith
least_most f cap (suc n) = let le = least_most f cap n in omega (arith, le)

pub price_is : (v : DistancesView) (tolls : List ℕ) (count n : ℕ) → v.table.goals.items ≡ goals_of v.level → count ≡ length (goals_of v.level)
    → n ≡ sum_to (λ i. get_or tolls i 0) count → n ≡ price_of v tolls
price_is v tolls count n goals counted found =
    let gs = v.table.goals.items in
    let f : ℕ → ℕ = λ i. get_or tolls i 0 in
    let rises : is_rising gs ≡ true = ap (λ (xs : List ℕ). is_rising xs) goals ∙ is_rising-goals v.level in
    found ∙ (ap (λ (k : ℕ). sum_to f k) (counted ∙ ap (λ (xs : List ℕ). length xs) (sym goals))
    ∙ (sym (sum_by_place f 0 gs rises) ∙ ap (λ (xs : List ℕ). sum_over (λ g. f (place_in gs g)) xs) goals))

-- a goal that the box can come to is at some place
pub near_at : (v : DistancesView) (row : List ℕ) (b p count : ℕ) (Found : Type 0) → v.table.goals.items ≡ goals_of v.level → row ≡ row_in v.table b p
    → count ≡ length (goals_of v.level) → ((i : ℕ) → i < count → get_or row i 0 < NEVER → Found) → CanCome v.level (far_in v.table) b p → Found
near_at v row b p count Found goals is counted found (g, goal, near) =
    let gs = v.table.goals.items in
    let there : contains gs g ≡ true = ap (λ (xs : List ℕ). contains xs g) goals ∙ (contains-goals v.level g ∙ goal) in
    let inside = place_inside gs g there in
    let same : length gs ≡ length (goals_of v.level) = ap (λ (xs : List ℕ). length xs) goals in
    found (place_in gs g) (omega (arith, inside, same, counted))
    (subst (λ (xs : List ℕ). get_or xs (place_in gs g) 0 < NEVER) (sym is) near)

-- a number appended to numbers, each of which is at most a bound for its place
pushed_below : (f : ℕ → ℕ) (xs : List ℕ) (x : ℕ) → ((i : ℕ) → get_or xs i 0 ≤ f i) → x ≤ f (length xs) → (i : ℕ)
    → get_or (xs ++ (x ∷ [])) i 0 ≤ f i
pushed_below f [] x all le zero = le
pushed_below f [] x all le (suc i) = omega arith
pushed_below f (y ∷ ys) x all le zero = all 0
pushed_below f (y ∷ ys) x all le (suc i) = pushed_below (λ j. f (suc j)) ys x (λ j. all (suc j)) le i

pub needs_pushed : (v : DistancesView) (tolls needs : List ℕ) (x count : ℕ) → length needs ≡ count → AreNeeds v tolls needs
    → x ≤ need_from v tolls count → (length (needs ++ (x ∷ [])) ≡ count + 1) × AreNeeds v tolls (needs ++ (x ∷ []))
needs_pushed v tolls needs x count all are le = (
  length-append needs (x ∷ []) ∙ ap (λ (n : ℕ). n + 1) all,
  pushed_below (need_from v tolls) needs x are (subst (λ (n : ℕ). x ≤ need_from v tolls n) (sym all) le),
)
