use Rattle.std.proofs.Common.{rules}
use Rattle.grid.proofs.lemmas.Steps.{scene_after_push}
use Rattle.grid.proofs.state.State.step.Goals as goal

pub returns-clause-scene : goal.returns-clause-scene
returns-clause-scene c = scene_after_push c.args.level.now c.args.self.now c.args.dir _ c.requires (search rules)
