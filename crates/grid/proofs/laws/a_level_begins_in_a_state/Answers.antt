use Rattle.grid.proofs.lemmas.Levels.{start_fits}
use Rattle.grid.proofs.laws.a_level_begins_in_a_state.Goals as goal

pub returns : goal.returns
returns c = start_fits
