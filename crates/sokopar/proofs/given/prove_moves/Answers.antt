-- The verdict is that of the letters; where it is that they solve the level, they write a solution.
use Rattle.shortest.proofs.lemmas.Fewest.{some_has}
use Rattle.sokopar.proofs.Judging.{few_pushes}
use Rattle.sokopar.proofs.given.prove_moves.Goals as goal

pub compare-judgement-requires-clause-some : goal.compare-judgement-requires-clause-some
compare-judgement-requires-clause-some g c κs within =
    some_has c.args.level.now c.args.moves c.in_ok-verdict.verdict c.in-Solved.pushes c.in-Solved.count c.in-Solved.is c.in_ok-verdict.ensures

pub compare-judgement-requires-clause-pushes : goal.compare-judgement-requires-clause-pushes
compare-judgement-requires-clause-pushes g c κs within =
    few_pushes c.args.level.now c.args.moves c.in_ok-verdict.verdict c.in-Solved.pushes c.in-Solved.count c.in-Solved.is c.in_ok-verdict.ensures
    c.requires.bound
