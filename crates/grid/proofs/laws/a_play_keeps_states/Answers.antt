use Rattle.grid.proofs.lemmas.Plays.{play_scene, length-play, length-pushes}
use Rattle.grid.proofs.laws.a_play_keeps_states.Goals as goal

pub returns-clause-state : goal.returns-clause-state
returns-clause-state c = λ board s t ds ps scene play. play_scene scene play

pub returns-clause-boxes : goal.returns-clause-boxes
returns-clause-boxes c = λ board s t ds ps scene play. length-play scene play

pub returns-clause-pushes : goal.returns-clause-pushes
returns-clause-pushes c = λ board s t ds ps play. length-pushes play
