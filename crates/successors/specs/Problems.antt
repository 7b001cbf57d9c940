-- A level with a cap of pushes, and what it admits.
use Rattle.std.specs.Prelude.{ℕ, ◌+◌, ◌≤◌, Option, None, Some}
use Rattle.grid.specs.Board.{Board, Scene}
use Rattle.doom.specs.Bounds.{IsLower}

-- what is searched: a level, and the greatest number of pushes of a solution, if one is set
pub record Problem : Type 0 where
  pub board : Board
  pub cap : Option ℕ

-- under a cap a position is admitted at k pushes if these and the pushes that its boxes need, each as if alone, are
-- together no more than the cap; without a cap every position is
abbrev pub IsAdmitted : Board → Option ℕ → ℕ → Scene → Type 0
IsAdmitted board None k n = Unit {0}
IsAdmitted board (Some most) k n = (low : ℕ) × IsLower board n.boxes low × (k + low ≤ most)
