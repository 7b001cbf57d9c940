use Rattle.corrals.proofs.finding.find.Goals as goal

pub returns : goal.returns
returns c told = rw c.of-ground.ensures at (c.is_closure-found.ensures.closure told)
