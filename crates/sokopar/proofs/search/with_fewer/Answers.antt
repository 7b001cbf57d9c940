-- A solution that is no worse than one with the fewest pushes has as many.
use Rattle.shortest.proofs.lemmas.Fewest.{still_fewest}
use Rattle.sokopar.proofs.search.with_fewer.Goals as goal

pub returns : goal.returns
returns g c = still_fewest c.args.level.now c.args.moves c.improved.result c.args.pushes c.requires.solved c.requires.fewest c.improved.ensures
