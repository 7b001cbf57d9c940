-- The square of a box is dead or not.
use Rattle.sokopar.proofs.Plights.{dead_in}
use Rattle.sokopar.proofs.doomed.is_in.Goals as goal

pub returns-in-OnDead : goal.returns-in-OnDead
returns-in-OnDead c = dead_in c.args.level.now c.args.dead.now c.args.plight c.args.square c.is_dead.result c.requires c.in-OnDead.is c.is_dead.ensures.dead
