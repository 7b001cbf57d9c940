-- Which pushes of a state it suffices to try.
use Rattle.std.specs.Prelude.{ℕ, suc, ◌≤◌}
use Rattle.grid.specs.declared.square.Push.{Push}
use Rattle.grid.specs.Board.{Board, Scene, IsSolved}
use Rattle.area.specs.After.{IsPushed}
use Rattle.prices.specs.Solving.{SolvableWithin}

-- one of these pushes is possible and leads to a state that is solvable within m
abbrev pub LeadsOn : Board → ℕ → (Push → Type 0) → Scene → Type 0
LeadsOn board m Tried s = (p : Push) × (t : Scene) × Tried p × IsPushed board s p t × SolvableWithin board m t

-- these pushes suffice if at most `left` pushes may follow the next one: if the state is not solved and is solvable
-- within m + 1 pushes, where m is at most `left`, one of these pushes leads to a state that is solvable within m
abbrev pub Suffice : Board → ℕ → (Push → Type 0) → Scene → Type 0
Suffice board left Tried s =
    (m : ℕ) → m ≤ left → ¬ (IsSolved board s) → SolvableWithin board (suc m) s → LeadsOn board m Tried s
