-- What a search for a solution with the fewest pushes says.
use Rattle.std.specs.Prelude.{◌≡◌, ℕ, length, Option, Some, None}
use Rattle.grid.specs.Board.{Board, start}
use Rattle.lurd.specs.Verdict.{IsVerdict}
use Rattle.lurd.specs.declared.verdict.Verdict.TheVariants.{Solved}
use Rattle.doom.specs.Lost.{IsLost}
use Rattle.prices.specs.Solving.{Allows, NoneWithin as NonePlays}
use Rattle.prices.specs.Fewest.{NoneHasFewer}
use Rattle.prover.specs.Reachable.{HasMore}
use Rattle.prover.specs.declared.outcome.Outcome.{Outcome}
use Rattle.prover.specs.declared.outcome.Outcome.TheVariants.{Least, NoneWithin, Unsolvable, Limit, Stopped}

-- what the outcome says of a level, a cap on pushes, and a limit of positions; `Late` says that the search's time is up
abbrev pub IsOutcome : Board → Option ℕ → ℕ → Type 0 → Outcome → Type 0
IsOutcome board cap limit Late (Least moves pushes) =
    IsVerdict board moves (Solved pushes (length moves)) × NoneHasFewer board pushes × Allows cap pushes
IsOutcome board cap limit Late NoneWithin = (most : ℕ) × (cap ≡ Some most) × NonePlays board most (start board)
IsOutcome board cap limit Late Unsolvable = (cap ≡ None) × IsLost board (start board)
IsOutcome board cap limit Late (Limit at_least) =
    NoneHasFewer board at_least × HasMore board limit × Allows cap at_least
IsOutcome board cap limit Late (Stopped at_least) = NoneHasFewer board at_least × Late × Allows cap at_least
