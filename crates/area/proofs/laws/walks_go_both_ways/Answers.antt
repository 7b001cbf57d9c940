use Rattle.area.proofs.lemmas.Norms.{area_back}
use Rattle.area.proofs.laws.walks_go_both_ways.Goals as goal

pub returns : goal.returns
returns c = area_back
