-- What the table of distances says.
use Rattle.std.specs.Prelude.{◌==◌, ◌&&◌, ℕ, suc, Bool, cond, nat_le, nat_lt, List, [], ◌∷◌, length, slice_index_or}
use Rattle.std.specs.Prelude.{take, drop}
use Rattle.prices.specs.declared.table.Side.{Side}
use Rattle.prices.specs.declared.table.Spot.{Spot}
use Rattle.prices.specs.declared.table.DistanceTable.{DistanceTable}

-- the number is one of the side
abbrev pub has_number : Side → ℕ → Bool
has_number side k = nat_le side.from k && nat_lt k side.to

-- where the distances of the first side that has the number begin; `other` if none has it
abbrev pub row_by : List Side → ℕ → ℕ → ℕ
row_by [] k other = other
row_by (s ∷ ss) k other = cond (has_number s k) s.row (row_by ss k other)

-- the entry of a square; all zeros past the end
abbrev pub spot_of : List Spot → ℕ → Spot
spot_of spots q = slice_index_or spots q (record { number = 0; first = 0; count = 0; row = 0 })

-- the sides of a box on the square
abbrev pub sides_of : List Spot → List Side → ℕ → List Side
sides_of spots sides b = let spot = spot_of spots b in take spot.count (drop spot.first sides)

-- the index of a box's first distance, with the player on the second square
abbrev pub row_start : List Spot → List Side → ℕ → ℕ → ℕ
row_start spots sides b p = row_by (sides_of spots sides b) (spot_of spots p).number (spot_of spots b).row

-- the distances of a box, the player being on the second square
abbrev pub row_in : DistanceTable → ℕ → ℕ → List ℕ
row_in t b p = take (length t.goals.items) (drop (row_start t.spots.items t.sides.items b p) t.far.items)

-- the first place of a square among some; their number where it is not among them
abbrev pub place_in : List ℕ → ℕ → ℕ
place_in [] q = 0
place_in (x ∷ xs) q = cond (x == q) 0 (suc (place_in xs q))

-- the number of a goal in a list that has one for each
abbrev pub number_of : List ℕ → List ℕ → ℕ → ℕ
number_of goals xs g = slice_index_or xs (place_in goals g) 0

-- how far the goal is from a box, the player being on the third square
abbrev pub far_in : DistanceTable → ℕ → ℕ → ℕ → ℕ
far_in t g b p = number_of t.goals.items (row_in t b p) g
