-- What boxes need under a list of tolls, one for each goal.
use Rattle.std.specs.Prelude.{ℕ, zero, suc, ◌+◌, ◌≤◌, min, List, drop, length, slice_index_or, take}
use Rattle.prices.specs.Prices.{goals_of, need_of, sum_over}
use Rattle.prices.specs.inside.Sums.{greatest}
use Rattle.prices.specs.inside.Tables.{far_in, number_of, row_start}
use Rattle.prices.specs.inside.Views.{DistancesView}

-- the toll of a goal
abbrev pub toll_in : DistancesView → List ℕ → ℕ → ℕ
toll_in v tolls g = number_of v.table.goals.items tolls g

-- what a lone box needs, at most the greatest number of 32 bits
abbrev pub need_under : DistancesView → List ℕ → ℕ → ℕ → ℕ
need_under v tolls b p = need_of v.level (far_in v.table) (toll_in v tolls) greatest b p

-- the tolls of all goals
abbrev pub price_of : DistancesView → List ℕ → ℕ
price_of v tolls = sum_over (toll_in v tolls) (goals_of v.level)

-- the least of the first n numbers, and of a cap
abbrev pub least_to : (ℕ → ℕ) → ℕ → ℕ → ℕ
least_to f cap zero = cap
least_to f cap (suc n) = min (f n) (least_to f cap n)

-- the sum of the first n numbers
abbrev pub sum_to : (ℕ → ℕ) → ℕ → ℕ
sum_to f zero = 0
sum_to f (suc n) = f n + sum_to f n

-- what a lone box needs by the row of distances that begins at an index: the least sum of a distance and its toll
abbrev pub need_from : DistancesView → List ℕ → ℕ → ℕ
need_from v tolls start =
    let row = take (length v.table.goals.items) (drop start v.table.far.items) in
    least_to (λ i. slice_index_or row i 0 + slice_index_or tolls i 0) greatest (length (goals_of v.level))

-- each number of a list, one for each distance, is at most what a lone box needs by the row that begins there
abbrev pub AreNeeds : DistancesView → List ℕ → List ℕ → Type 0
AreNeeds v tolls needs = (start : ℕ) → slice_index_or needs start 0 ≤ need_from v tolls start

-- what a lone box needs by such a list
abbrev pub need_in : DistancesView → List ℕ → ℕ → ℕ → ℕ
need_in v needs b p = slice_index_or needs (row_start v.table.spots.items v.table.sides.items b p) 0
