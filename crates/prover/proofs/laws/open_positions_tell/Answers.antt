use Rattle.prover.proofs.Openings.{nothing_is_lost, least_bounds, closed_decides}
use Rattle.prover.proofs.laws.open_positions_tell.Goals as goal

pub returns-clause-lost : goal.returns-clause-lost
returns-clause-lost c = nothing_is_lost c.args.level.now

pub returns-clause-least : goal.returns-clause-least
returns-clause-least c = least_bounds c.args.level.now

pub returns-clause-closed : goal.returns-clause-closed
returns-clause-closed c = closed_decides c.args.level.now
