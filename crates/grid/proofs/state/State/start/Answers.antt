use Rattle.grid.specs.Board.{start}
use Rattle.grid.proofs.lemmas.Levels.{start_is_scene}
use Rattle.grid.proofs.state.State.start.Goals as goal

pub returns-clause-scene : goal.returns-clause-scene
unfolding start
returns-clause-scene c = rw (c.in_ok-of.ensures, c.player.ensures) (start_is_scene c.args.level.now c.tell.ensures)
