use Rattle.grid.proofs.lemmas.Steps.{inside_grid}
use Rattle.shortest.proofs.improving.search_once.Goals as goal

pub of-requires : goal.of-requires
of-requires g c = inside_grid c.args.level.now c.args.finder.now.start.player c.requires.finder.start.scene.player.0
