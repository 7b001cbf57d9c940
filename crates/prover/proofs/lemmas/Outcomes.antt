-- What outcomes say.
use Rattle.std.proofs.Common.{ℕ, Option}
use Rattle.grid.specs.Board.{Board}
use Rattle.prover.specs.Outcomes.{IsOutcome}
use Rattle.prover.specs.declared.outcome.Outcome.{Outcome}
use Rattle.prover.specs.declared.outcome.Outcome.TheVariants.{Least, NoneWithin, Unsolvable, Limit, Stopped}

-- an outcome says as much under a weaker condition for that the time is up
pub outcome_then : {A B : Type 0} (board : Board) (cap : Option ℕ) (limit : ℕ) (o : Outcome) → (A → B) →
    IsOutcome board cap limit A o → IsOutcome board cap limit B o
outcome_then board cap limit (Least moves pushes) then is = is
outcome_then board cap limit NoneWithin then is = is
outcome_then board cap limit Unsolvable then is = is
outcome_then board cap limit (Limit bound) then is = is
outcome_then board cap limit (Stopped bound) then (floor, late, allowed) = (floor, then late, allowed)
