use Rattle.grid.specs.Plays.{stay}
use Rattle.grid.proofs.lemmas.Plays.{same_area}
use Rattle.grid.proofs.laws.a_play_is_decided.Goals as goal

pub returns-clause-pushes : goal.returns-clause-pushes
returns-clause-pushes c = λ board s t u ds es ps scene one two. same_area ps scene (stay tt) one two
