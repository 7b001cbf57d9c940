use Rattle.grid.proofs.lemmas.Levels.{start_fits}
use Rattle.grid.proofs.level.Level.tell_start.Goals as goal

pub returns : goal.returns
returns c = start_fits c.args.self.now c.tell.ensures
