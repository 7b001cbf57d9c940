use Rattle.area.proofs.lemmas.Norms.{norm_along_walk, norm_shared}
use Rattle.area.proofs.laws.an_area_has_one_normal_form.Goals as goal

pub returns-clause-same : goal.returns-clause-same
returns-clause-same c = λ board s t n ds scene p. norm_along_walk n scene p

pub returns-clause-shared : goal.returns-clause-shared
returns-clause-shared c = λ board s t n ss st h k. norm_shared ss h st k
