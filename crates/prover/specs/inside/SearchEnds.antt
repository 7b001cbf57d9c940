-- How a search ends.
use Rattle.std.specs.Prelude.{◌≡◌, ℕ, List, slice_get, Option, Some, None}
use Rattle.grid.specs.Board.{Board, IsSolved, start}
use Rattle.doom.specs.Lost.{IsLost}
use Rattle.prices.specs.Solving.{Allows, NoneWithin as NonePlays}
use Rattle.prover.specs.declared.outcome.Outcome.{Outcome}
use Rattle.prover.specs.declared.outcome.Outcome.TheVariants.{NoneWithin, Unsolvable}
use Rattle.prover.specs.declared.searching.SearchEnd.{SearchEnd}
use Rattle.prover.specs.declared.searching.SearchEnd.TheVariants.{Closed, Solved, Limit, Stopped}
use Rattle.prices.specs.Fewest.{NoneHasFewer}
use Rattle.prover.specs.Reachable.{HasMore}
use Rattle.store.specs.Visited.{Node}

-- no play that the cap allows ends solved
abbrev pub NoneIsAllowed : Board → Option ℕ → Type 0
NoneIsAllowed board None = IsLost board (start board)
NoneIsAllowed board (Some most) = NonePlays board most (start board)

-- the outcome where no position is open
abbrev pub none_by : Option ℕ → Outcome
none_by None = Unsolvable
none_by (Some most) = NoneWithin

-- the position at the place is solved, and was found with as few pushes as any solution has
pub record IsLeastSolved (board : Board) (cap : Option ℕ) (all : List Node) (place : ℕ) : Type 0 where
  pub entry : Node
  pub at : slice_get all place ≡ Some entry
  pub solved : IsSolved board entry.position
  pub fewest : NoneHasFewer board entry.pushes
  pub allowed : Allows cap entry.pushes

-- no solution has fewer pushes, and the cap allows as many
abbrev pub IsFloor : Board → Option ℕ → ℕ → Type 0
IsFloor board cap least = NoneHasFewer board least × Allows cap least

-- what the end says of the level, beside what was found; `Late` says that the search's time is up
abbrev pub Tells : Board → Option ℕ → ℕ → Type 0 → List Node → SearchEnd → Type 0
Tells board cap limit Late all Closed = NoneIsAllowed board cap
Tells board cap limit Late all (Solved place) = IsLeastSolved board cap all place
Tells board cap limit Late all Limit = HasMore board limit
Tells board cap limit Late all Stopped = Late
