-- The replay counts the letters.
use Rattle.sokopar.proofs.Judging.{solved_long}
use Rattle.sokopar.proofs.search.solved_pushes.Goals as goal

pub returns : goal.returns
returns c =
    solved_long c.args.level.now c.args.moves.now c.in-Ok.verdict c.in-Solved.pushes c.in-Solved.moves c.in-Solved.is c.in-Ok.ensures
