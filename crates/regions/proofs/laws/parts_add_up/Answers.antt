use Rattle.regions.proofs.lemmas.Excess.{endless_is_lost, parts_add_up}
use Rattle.regions.proofs.laws.parts_add_up.Goals as goal

pub returns : goal.returns
returns c = record { adds = parts_add_up c.args.level.now; lost = endless_is_lost c.args.level.now }
