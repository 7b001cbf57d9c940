use Rattle.grid.proofs.lemmas.Steps.{walk_back}
use Rattle.grid.proofs.laws.walks_can_be_walked_back.Goals as goal

pub returns-clause-step : goal.returns-clause-step
returns-clause-step c = walk_back
