use Rattle.doom.proofs.lemmas.Soundness as soundness
use Rattle.doom.proofs.laws.doomed_are_lost.Goals as goal

pub returns : goal.returns
returns c = soundness.doomed_are_lost c.args.level.now
