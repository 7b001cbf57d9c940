use Rattle.area.proofs.lemmas.Norms.{norm_exists, norm_unique}
use Rattle.area.proofs.laws.each_state_has_one_normal_form.Goals as goal

pub returns-clause-some : goal.returns-clause-some
returns-clause-some c = norm_exists

pub returns-clause-one : goal.returns-clause-one
returns-clause-one c = norm_unique
