use Rattle.regions.proofs.lemmas.Excess.{excess_is_bound}
use Rattle.regions.proofs.laws.excess_is_bound.Goals as goal

pub returns : goal.returns
returns c = excess_is_bound c.args.level.now
