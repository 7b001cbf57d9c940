use Rattle.corrals.proofs.lemmas.Corrals.{corrals_suffice}
use Rattle.corrals.proofs.laws.corrals_suffice.Goals as goal

pub returns : goal.returns
returns c = corrals_suffice c.args.level.now
