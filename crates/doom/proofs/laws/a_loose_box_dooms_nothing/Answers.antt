use Rattle.doom.proofs.lemmas.Loose.{loose_dooms_nothing}
use Rattle.doom.proofs.laws.a_loose_box_dooms_nothing.Goals as goal

pub returns : goal.returns
returns c = loose_dooms_nothing c.args.level.now
