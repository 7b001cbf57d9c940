use Rattle.sokopar.proofs.Solutions.{solution_replays}
use Rattle.sokopar.proofs.laws.solution_replays.Goals as goal

pub returns : goal.returns
returns c = solution_replays
