-- Without a cap every bound is within it.
use Rattle.sokopar.proofs.Judging.{no_cap}
use Rattle.sokopar.proofs.compare.beside_open_pushes.Goals as goal

pub known_at_limit-requires-clause-open : goal.known_at_limit-requires-clause-open
known_at_limit-requires-clause-open g c = (c.requires.open, no_cap c.args.settings.cap c.args.bound c.requires.uncapped)
