use Rattle.sokopar.proofs.ShownAgain.{shown_again}
use Rattle.sokopar.proofs.laws.shown_levels_read_back.Goals as goal

pub returns : goal.returns
returns c = shown_again c.one_collection.ensures.one
