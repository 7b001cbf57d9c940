-- Where more boxes can be brought to marked goals only than there are marks, no play ends solved.
use Rattle.std.proofs.Common.{◌≡◌, ◌+◌, ◌*◌, ◌<◌, ◌≤◌, ◌||◌, ◌==◌, ℕ, zero, suc, Bool, true, false, cond, nat_le, List, [], ◌∷◌, length, get_or}
use Rattle.std.proofs.Common.{refl, ap, ◌∙◌, arith}
use Rattle.std.proofs.lemmas.Bool.{and_parts, eqb-true, false≢true, leb-false, leb-true}
use Rattle.grid.specs.Squares.{Squares}
use Rattle.grid.specs.Rising.{is_rising}
use Rattle.grid.specs.Board.{Board, Scene, next}
use Rattle.grid.specs.States.{IsScene}
use Rattle.doom.specs.Lost.{IsLost}
use Rattle.prices.specs.declared.pulls.TheConstants.{NEVER}
use Rattle.prices.specs.declared.table.DistanceTable.{DistanceTable}
use Rattle.prices.specs.Prices.{AreFar, goals_of, least_of, need_of, sum_over, total_need}
use Rattle.prices.specs.inside.Checks.{StayAway}
use Rattle.prices.specs.inside.Goals.{keeps_to, mark_count, marks_all}
use Rattle.prices.specs.inside.Sums.{sum_all}
use Rattle.prices.specs.inside.Tables.{far_in, number_of, place_in, row_in}
use Rattle.prices.proofs.lemmas.Goals.{is_rising-goals}
use Rattle.prices.proofs.lemmas.Tables.{place_inside}
use Rattle.prices.proofs.Sums.{at_least, tolls_le, tolls_refuse}

-- ---- distances that are `k` where a box can't be brought to the goal, and else nothing

abbrev never_or : ℕ → ℕ → ℕ
never_or k n = cond (nat_le NEVER n) k 0

never_or_le : (k a b : ℕ) → (NEVER ≤ a → NEVER ≤ b) → never_or k a ≤ never_or k b
never_or_le k a b on = by (nat_le NEVER a) (nat_le NEVER b) refl refl
  where
    by : (x y : Bool) → nat_le NEVER a ≡ x → nat_le NEVER b ≡ y → cond x k 0 ≤ cond y k 0
    by false y below other = omega arith
    by true true above other = omega arith
    by true false above below =
        let there = on (leb-true NEVER a above) in
        let less = leb-false NEVER b below in
        absurd (omega (arith, there, less))

are_far_never : (board : Board) (far : ℕ → ℕ → ℕ → ℕ) (k : ℕ) → AreFar board far → StayAway board far → AreFar board (λ g b p. never_or k (far g b p))
are_far_never board far k are away = record {
  home = λ g p goal stands. ap (never_or k) (are.home g p goal stands);
  walk = λ g b p d here there. (let le = are.walk g b p d here there in
      never_or_le k (far g b p) (far g b (next board p d)) (λ never. omega (arith, le, never)));
  push = λ g p d here ahead. (
      let q = next board p d in
      let le = never_or_le k (far g q p) (far g (next board q d) q) (away g p d here ahead) in
      omega (arith, le)
      );
}

-- ---- tolls of `k` at the marked goals

abbrev tolls_by : ℕ → List Bool → List ℕ
tolls_by k [] = []
tolls_by k (m ∷ ms) = cond m k 0 ∷ tolls_by k ms

length-tolls_by : (k : ℕ) (ms : List Bool) → length (tolls_by k ms) ≡ length ms
length-tolls_by k [] = refl
length-tolls_by k (m ∷ ms) = ap suc (length-tolls_by k ms)

sum_all-tolls_by : (k : ℕ) (ms : List Bool) → sum_all (tolls_by k ms) ≡ mark_count ms * k
sum_all-tolls_by k [] = omega arith
sum_all-tolls_by k (m ∷ ms) = by m (sum_all-tolls_by k ms)
  where
    by : (x : Bool) → sum_all (tolls_by k ms) ≡ mark_count ms * k → cond x k 0 + sum_all (tolls_by k ms) ≡ (cond x 1 0 + mark_count ms) * k
    by true rest = omega (arith, rest)
    by false rest = omega (arith, rest)

-- each goal costs a box that keeps to the marked ones `k`
costs_all : (k i : ℕ) (xs : List ℕ) (ms : List Bool) → marks_all xs ms ≡ true → i < length xs
    → k ≤ never_or k (get_or xs i 0) + get_or (tolls_by k ms) i 0
costs_all k i [] ms all lt = absurd (omega (arith, lt))
costs_all k i (x ∷ xs) [] all lt = absurd (false≢true all)
costs_all k zero (x ∷ xs) (m ∷ ms) all lt = by m (nat_le NEVER x) (and_parts (m || nat_le NEVER x) (marks_all xs ms) all).0
  where
    by : (u w : Bool) → (u || w) ≡ true → k ≤ cond w k 0 + cond u k 0
    by true w h = omega arith
    by false true h = omega arith
    by false false h = absurd (false≢true h)
costs_all k (suc i) (x ∷ xs) (m ∷ ms) all lt =
    costs_all k i xs ms (and_parts (m || nat_le NEVER x) (marks_all xs ms) all).1 (omega (arith, lt))

keeper_needs : (t : DistanceTable) (ms : List Bool) (k b p : ℕ) → length ms ≡ length t.goals.items → keeps_to t ms b p ≡ true
    → k ≤ least_of (λ g. never_or k (far_in t g b p) + number_of t.goals.items (tolls_by k ms) g) k t.goals.items
keeper_needs t ms k b p size keeps =
    let row = row_in t b p in
    let parts = and_parts (length row == length ms) (marks_all row ms) keeps in
    let same = eqb-true (length row) (length ms) parts.0 in
    at_least (λ g. never_or k (far_in t g b p) + number_of t.goals.items (tolls_by k ms) g) k k t.goals.items (λ g there. (
    let inside = place_inside t.goals.items g there in
    costs_all k (place_in t.goals.items g) row ms parts.1 (omega (arith, inside, same, size))
    )) (omega arith)

-- ---- all boxes

needs_of_some : (f : ℕ → Bool) (need : ℕ → ℕ) (k : ℕ) (xs : Squares) → ((b : ℕ) → f b ≡ true → k ≤ need b)
    → sum_over (λ b. cond (f b) 1 0) xs * k ≤ sum_over need xs
needs_of_some f need k [] each = omega arith
needs_of_some f need k (x ∷ xs) each = by (f x) (each x) (needs_of_some f need k xs each)
  where
    by : (u : Bool) → (u ≡ true → k ≤ need x) → sum_over (λ b. cond (f b) 1 0) xs * k ≤ sum_over need xs
        → (cond u 1 0 + sum_over (λ b. cond (f b) 1 0) xs) * k ≤ need x + sum_over need xs
    by true le rest = let here = le refl in omega (arith, here, rest)
    by false le rest = omega (arith, rest)

times_more : (a b k : ℕ) → a < b → k + a * k ≤ b * k
times_more a zero k lt = absurd (omega (arith, lt))
times_more zero (suc b) k lt = omega arith
times_more (suc a) (suc b) k lt = let rest = times_more a b k (omega (arith, lt)) in omega (arith, rest)

pub more_than_goals : (board : Board) (t : DistanceTable) (ms : List Bool) (s : Scene) (marks keep : ℕ) → AreFar board (far_in t) → StayAway board (far_in t)
    → t.goals.items ≡ goals_of board → length ms ≡ length t.goals.items → IsScene board s → marks ≡ mark_count ms
    → keep ≡ sum_over (λ b. cond (keeps_to t ms b s.player) 1 0) s.boxes → marks < keep → IsLost board s
more_than_goals board t ms s marks keep are away goals size scene marked kept more u ds ps play solved =
    let k = suc (length ps) in
    let far : ℕ → ℕ → ℕ → ℕ = λ g b p. never_or k (far_in t g b p) in
    let toll = number_of t.goals.items (tolls_by k ms) in
    let rises : is_rising t.goals.items ≡ true = ap (λ (gs : List ℕ). is_rising gs) goals ∙ is_rising-goals board in
    let pay = tolls_le 0 t.goals.items (tolls_by k ms) rises (length-tolls_by k ms ∙ size) in
    let sum = sum_all-tolls_by k ms in
    let same : sum_over toll t.goals.items ≡ sum_over toll (goals_of board) = ap (λ (gs : List ℕ). sum_over toll gs) goals in
    let needs = needs_of_some (λ b. keeps_to t ms b s.player) (λ b. least_of (λ g. far g b s.player + toll g) k t.goals.items) k s.boxes
    (λ b keeps. keeper_needs t ms k b s.player size keeps) in
    let all : sum_over (λ b. least_of (λ g. far g b s.player + toll g) k t.goals.items) s.boxes ≡ total_need (need_of board far toll k) s =
    ap (λ (gs : List ℕ). sum_over (λ b. least_of (λ g. far g b s.player + toll g) k gs) s.boxes) goals in
    let gap = times_more (mark_count ms) (sum_over (λ b. cond (keeps_to t ms b s.player) 1 0) s.boxes) k (omega (arith, marked, kept, more)) in
    let lt = tolls_refuse board far s k (length ps) (are_far_never board (far_in t) k are away) scene
    (toll, k, omega (arith, pay, sum, same, needs, all, gap)) (omega arith) ds ps u play solved in
    absurd (omega (arith, lt))
