-- What a search for the fewest moves says of a level.
use Rattle.std.specs.Prelude.{ℕ, length}
use Rattle.grid.specs.Board.{Board}
use Rattle.lurd.specs.Verdict.{IsVerdict}
use Rattle.lurd.specs.declared.verdict.Verdict.TheVariants.{Solved}
use Rattle.shortest.specs.declared.outcome.MovesOutcome.{MovesOutcome}
use Rattle.shortest.specs.declared.outcome.MovesOutcome.TheVariants.{Least, Limit, Stopped}
use Rattle.shortest.specs.Shortest.{NoneIsBetter, HasMoreStates}

-- what the outcome says of a level whose solutions have at least `pushes` pushes, and of a limit of states; `Late` says
-- that the search's time is up
abbrev pub IsMovesOutcome : Board → ℕ → ℕ → Type 0 → MovesOutcome → Type 0
IsMovesOutcome board pushes limit Late (Least moves) =
    IsVerdict board moves (Solved pushes (length moves)) × NoneIsBetter board pushes (length moves)
IsMovesOutcome board pushes limit Late Limit = HasMoreStates board pushes limit
IsMovesOutcome board pushes limit Late Stopped = Late
