use Rattle.prover.proofs.searching.is_solved.Goals as goal

pub returns : goal.returns
returns c = c.are_on_goals.ensures c.args.position.now c.boxes.ensures.squares
