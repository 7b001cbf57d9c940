-- What boxes need by the distances of a table and a list of tolls, one for each goal.
use Rattle.std.specs.Prelude.{◌+◌, ◌==◌, ℕ, min, cond, List, [], ◌∷◌, length}
use Rattle.prices.specs.declared.table.DistanceTable.{DistanceTable}
use Rattle.prices.specs.Prices.{least_of}
use Rattle.prices.specs.inside.Tables.{far_in, number_of, row_in}

-- the sum of numbers
abbrev pub sum_all : List ℕ → ℕ
sum_all [] = 0
sum_all (x ∷ xs) = x + sum_all xs

-- the greatest number of 32 bits, which caps what a box needs
abbrev pub greatest : ℕ
greatest = 4294967295

-- what a box needs, the player being on the second square
abbrev pub need_by : DistanceTable → List ℕ → ℕ → ℕ → ℕ
need_by t tolls b p = least_of (λ g. far_in t g b p + number_of t.goals.items tolls g) greatest t.goals.items

-- the least sum of a number and the other at its place; the greatest number where that is less or there are none
abbrev pub least_sum : List ℕ → List ℕ → ℕ
least_sum [] ys = greatest
least_sum (x ∷ xs) [] = greatest
least_sum (x ∷ xs) (y ∷ ys) = min (x + y) (least_sum xs ys)

-- what the code finds that a box needs: nothing where the table has no row of distances
abbrev pub need_seen : DistanceTable → List ℕ → ℕ → ℕ → ℕ
need_seen t tolls b p = cond (length (row_in t b p) == length tolls) (least_sum (row_in t b p) tolls) 0
