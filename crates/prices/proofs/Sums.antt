-- What boxes need by a table and a list of tolls is a need, and so the code's sums are bounds.
use Rattle.std.proofs.Common.{◌≡◌, ◌+◌, ◌-◌, ◌<◌, ◌≤◌, ◌==◌, ℕ, zero, suc, Bool, true, false, cond, eqb, eq-eqb, inl}
use Rattle.std.proofs.Common.{inr, List, [], ◌∷◌, length, get_or, refl, ap, subst, ◌∙◌, arith}
use Rattle.std.proofs.lemmas.Bool.{cases_lt, eqb-true, false≢true, ne_eqb, true≢false}
use Rattle.grid.specs.Board.{Board, Scene}
use Rattle.grid.specs.States.{IsScene}
use Rattle.grid.specs.Squares.{contains}
use Rattle.grid.specs.Rising.{rises_from, is_rising}
use Rattle.grid.proofs.lemmas.Squares.{contains_head, contains-from, rises_from-parts, contains_tail}
use Rattle.prices.specs.declared.table.DistanceTable.{DistanceTable}
use Rattle.prices.specs.Solving.{NoneWithin}
use Rattle.prices.specs.Prices.{AreFar, ComesOfTolls, goals_of, least_of, need_of, sum_over, total_need}
use Rattle.prices.specs.inside.Tables.{far_in, number_of, place_in, row_in}
use Rattle.prices.specs.inside.Sums.{greatest, least_sum, need_by, need_seen, sum_all}
use Rattle.prices.proofs.lemmas.Goals.{is_rising-goals}
use Rattle.prices.proofs.lemmas.Tables.{place_inside}
use Rattle.prices.proofs.lemmas.Prices.{needs_refuse, sum_le, tolls_are_free}

-- what is at most each cost and the cap is at most the least
pub at_least : (cost : ℕ → ℕ) (cap n : ℕ) (gs : List ℕ) → ((g : ℕ) → contains gs g ≡ true → n ≤ cost g) → n ≤ cap
    → n ≤ least_of cost cap gs
at_least cost cap n [] each le = le
at_least cost cap n (g ∷ gs) each le =
    let here = each g (contains_head g gs) in
    let rest = at_least cost cap n gs (λ x there. each x (contains_tail g gs x there)) le in
    omega (arith, here, rest)

-- what is at most each sum of a distance and its toll is at most what the box needs
pub need_least : (t : DistanceTable) (tolls row : List ℕ) (b p n : ℕ) → row ≡ row_in t b p → length row ≡ length tolls
    → length tolls ≡ length t.goals.items
    → ((i : ℕ) → i < length row → n ≤ get_or row i 0 + get_or tolls i 0) → n ≤ greatest → n ≤ need_by t tolls b p
need_least t tolls row b p n is same size each le =
    at_least (λ g. far_in t g b p + number_of t.goals.items tolls g) greatest n t.goals.items (λ g there. (
    let i = place_in t.goals.items g in
    let inside = place_inside t.goals.items g there in
    subst (λ (xs : List ℕ). n ≤ get_or xs i 0 + get_or tolls i 0) is (each i (omega (arith, inside, same, size)))
    )) le

-- the least sum is at most each, and at most the greatest number
least_sum_le : (xs ys : List ℕ) (i : ℕ) → length xs ≡ length ys → i < length xs
    → least_sum xs ys ≤ get_or xs i 0 + get_or ys i 0
least_sum_le [] ys i same lt = absurd (omega (arith, lt))
least_sum_le (x ∷ xs) [] i same lt = absurd (omega (arith, same))
least_sum_le (x ∷ xs) (y ∷ ys) zero same lt = omega arith
least_sum_le (x ∷ xs) (y ∷ ys) (suc i) same lt = let rest =
    least_sum_le xs ys i (omega (arith, same)) (omega (arith, lt)) in omega (arith, rest)

pub least_sum_most : (xs ys : List ℕ) → least_sum xs ys ≤ greatest
least_sum_most [] ys = omega arith
least_sum_most (x ∷ xs) [] = omega arith
least_sum_most (x ∷ xs) (y ∷ ys) = let rest = least_sum_most xs ys in omega (arith, rest)

-- what the code finds is no more than what the box needs
pub seen_low : (t : DistanceTable) (tolls : List ℕ) (b p : ℕ) → length tolls ≡ length t.goals.items
    → need_seen t tolls b p ≤ need_by t tolls b p
seen_low t tolls b p size = by_eq (length (row_in t b p) == length tolls) refl
  where
    by_eq : (e : Bool) → (length (row_in t b p) == length tolls) ≡ e
        → cond e (least_sum (row_in t b p) tolls) 0 ≤ need_by t tolls b p
    by_eq false is = omega arith
    by_eq true is =
        let same : length (row_in t b p) ≡ length tolls = eqb-true (length (row_in t b p)) (length tolls) is in
        need_least t tolls (row_in t b p) b p (least_sum (row_in t b p) tolls) refl same size
        (λ i lt. least_sum_le (row_in t b p) tolls i same lt) (least_sum_most (row_in t b p) tolls)

-- the tolls of goals that rise are no more than all numbers
pub tolls_le : (k : ℕ) (gs xs : List ℕ) → rises_from k gs ≡ true → length xs ≡ length gs
    → sum_over (number_of gs xs) gs ≤ sum_all xs
tolls_le k [] xs rises same = omega arith
tolls_le k (g ∷ gs) [] rises same = absurd (omega (arith, same))
tolls_le k (g ∷ gs) (x ∷ xs) rises same =
    let parts = rises_from-parts k g gs rises in
    let rest = tolls_le (suc g) gs xs parts.1 (omega (arith, same)) in
    let here : number_of (g ∷ gs) (x ∷ xs) g ≡ x = own (eqb g g) (eq-eqb g g refl) in
    let others = sum_le (number_of (g ∷ gs) (x ∷ xs)) (number_of gs xs) gs (λ y there. (
    let from = contains-from (suc g) gs y parts.1 there in
    let e : number_of (g ∷ gs) (x ∷ xs) y ≡ number_of gs xs y =
    other y (eqb g y) (ne_eqb g y (λ e. omega (arith, e, from))) in
    omega (arith, e)
    )) in
    omega (arith, here, rest, others)
  where
    own : (e : Bool) → e ≡ true → get_or (x ∷ xs) (cond e 0 (suc (place_in gs g))) 0 ≡ x
    own true is = refl
    own false is = absurd (false≢true is)

    other : (y : ℕ) (e : Bool) → e ≡ false
        → get_or (x ∷ xs) (cond e 0 (suc (place_in gs y))) 0 ≡ get_or xs (place_in gs y) 0
    other y true is = absurd (true≢false is)
    other y false is = refl

no_tolls : (gs : List ℕ) → sum_over (λ g. 0) gs ≡ 0
no_tolls [] = refl
no_tolls (g ∷ gs) = let e = no_tolls gs in omega (arith, e)

-- nothing comes of no tolls
pub none_above : (board : Board) (far : ℕ → ℕ → ℕ → ℕ) (s : Scene) → ComesOfTolls board far s 0
none_above board far s = ((λ g. 0), 0, (let e = no_tolls (goals_of board) in omega (arith, e)))

-- what the boxes need above the sum of a list of tolls comes of tolls
pub needs_above : (board : Board) (t : DistanceTable) (tolls : List ℕ) (s : Scene) (needs sum : ℕ)
    → t.goals.items ≡ goals_of board → length tolls ≡ length t.goals.items
    → needs ≡ sum_over (λ b. need_seen t tolls b s.player) s.boxes → sum ≡ sum_all tolls
    → ComesOfTolls board (far_in t) s (needs - sum)
needs_above board t tolls s needs sum goals size seen paid = elim (cases_lt needs sum) [
  | inl less ↦ subst (ComesOfTolls board (far_in t) s) (let e : 0 ≡ needs - sum = omega (arith, less) in
      e) (none_above board (far_in t) s)
  | inr enough ↦ (toll, greatest, omega (arith, pay, same, need, low, seen, paid, enough))
]
  where
    low : sum_over (λ b. need_seen t tolls b s.player) s.boxes ≤ sum_over (λ b. need_by t tolls b s.player) s.boxes
    low = sum_le (λ b. need_seen t tolls b s.player) (λ b. need_by t tolls b s.player) s.boxes
        (λ b there. seen_low t tolls b s.player size)

    toll : ℕ → ℕ
    toll = number_of t.goals.items tolls

    rises : is_rising t.goals.items ≡ true
    rises = ap (λ (gs : List ℕ). is_rising gs) goals ∙ is_rising-goals board

    pay : sum_over toll t.goals.items ≤ sum_all tolls
    pay = tolls_le 0 t.goals.items tolls rises size

    same : sum_over toll t.goals.items ≡ sum_over toll (goals_of board)
    same = ap (λ (gs : List ℕ). sum_over toll gs) goals

    need : sum_over (λ b. need_by t tolls b s.player) s.boxes ≡ total_need (need_of board (far_in t) toll greatest) s
    need = ap (λ (gs : List ℕ). sum_over (λ b. least_of (λ g. far_in t g b s.player + toll g) greatest gs) s.boxes)
        goals

-- where a number comes of tolls, no play with fewer pushes ends solved
pub tolls_refuse : (board : Board) (far : ℕ → ℕ → ℕ → ℕ) (s : Scene) (low m : ℕ) → AreFar board far → IsScene board s
    → ComesOfTolls board far s low → m < low → NoneWithin board m s
tolls_refuse board far s low m are scene (toll, cap, le) lt =
    needs_refuse board toll (need_of board far toll cap) m s (tolls_are_free board far toll cap are) scene
    (omega (arith, le, lt))
