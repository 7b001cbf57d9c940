-- How a level and its cap are put together and taken apart.
use Rattle.std.specs.Prelude.{◌≡◌, ℕ, Option, None, Some}
use Rattle.grid.specs.Board.{Board, Scene}
use Rattle.successors.specs.Problems.{Problem, IsAdmitted}

-- what a level with its cap admits at k pushes
abbrev pub Admits : Problem → ℕ → Scene → Type 0
Admits problem k n = IsAdmitted problem.board problem.cap k n

-- a level with a cap or with none
abbrev pub capped : Board → Option ℕ → Problem
capped board cap = record { board = board; cap = cap }

abbrev pub uncapped : Board → Problem
uncapped board = capped board None

-- a bound is that of the level; where there is none, no cap is set
abbrev pub HasBound : Problem → Option Board → Type 0
HasBound problem None = problem.cap ≡ None
HasBound problem (Some board) = board ≡ problem.board
