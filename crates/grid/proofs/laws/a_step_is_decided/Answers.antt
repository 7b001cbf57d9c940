use Rattle.grid.proofs.lemmas.Steps.{step_is, scene_after_step, length-step}
use Rattle.grid.proofs.laws.a_step_is_decided.Goals as goal

pub returns-clause-some : goal.returns-clause-some
returns-clause-some c = step_is

pub returns-clause-state : goal.returns-clause-state
returns-clause-state c = λ board s d did t scene step. scene_after_step board s d did t scene step

pub returns-clause-boxes : goal.returns-clause-boxes
returns-clause-boxes c = λ board s d did t scene step. length-step board s d did t scene step
