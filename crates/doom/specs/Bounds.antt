-- A lower bound on pushes: the sum of what each box needs as if it were alone.
use Rattle.std.specs.Prelude.{◌≡◌, ℕ, suc, ◌+◌, ◌≤◌, [], ◌∷◌}
use Rattle.grid.specs.Squares.{Squares}
use Rattle.grid.specs.Board.{Board}
use Rattle.doom.specs.Deadlocks.{Live, home, onward}

-- how many pushes bring a lone box along a way to its goal
abbrev pub pushes_of : {board : Board} {q : ℕ} → Live board q → ℕ
pushes_of (home goal) = 0
pushes_of (onward d here ahead behind way) = suc (pushes_of way)

-- n is the least number of pushes that bring a lone box from the square to a goal
abbrev pub IsFar : Board → ℕ → ℕ → Type 0
IsFar board q n = ((way : Live board q) × (pushes_of way ≡ n)) × ((way : Live board q) → n ≤ pushes_of way)

-- n is the sum of these numbers over the boxes
abbrev pub IsLower : Board → Squares → ℕ → Type 0
IsLower board [] n = n ≡ 0
IsLower board (q ∷ qs) n = (a b : ℕ) × IsFar board q a × IsLower board qs b × (n ≡ a + b)
