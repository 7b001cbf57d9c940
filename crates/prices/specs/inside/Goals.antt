-- Boxes that can be brought to some marked goals only.
use Rattle.std.specs.Prelude.{◌==◌, ◌&&◌, ◌||◌, ◌+◌, ℕ, Bool, true, false, cond, nat_le, List, [], ◌∷◌, length}
use Rattle.prices.specs.declared.pulls.TheConstants.{NEVER}
use Rattle.prices.specs.declared.table.DistanceTable.{DistanceTable}
use Rattle.prices.specs.inside.Tables.{row_in}

-- each distance without a mark is `NEVER` or more
abbrev pub marks_all : List ℕ → List Bool → Bool
marks_all [] ms = true
marks_all (x ∷ xs) [] = false
marks_all (x ∷ xs) (m ∷ ms) = (m || nat_le NEVER x) && marks_all xs ms

-- the box can be brought to none but marked goals, the player being on the second square
abbrev pub keeps_to : DistanceTable → List Bool → ℕ → ℕ → Bool
keeps_to t ms b p = (length (row_in t b p) == length ms) && marks_all (row_in t b p) ms

-- how many marks there are
abbrev pub mark_count : List Bool → ℕ
mark_count [] = 0
mark_count (m ∷ ms) = cond m 1 0 + mark_count ms
