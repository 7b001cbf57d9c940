use Rattle.doom.proofs.lemmas.Soundness.{solution_safe}
use Rattle.doom.proofs.laws.solution_is_safe.Goals as goal

pub returns : goal.returns
returns c = solution_safe c.args.level.now
