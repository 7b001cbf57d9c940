use Rattle.prover.proofs.searching.run.Goals as goal

pub run_rounds-end-requires-clause-desk : goal.run_rounds-end-requires-clause-desk
run_rounds-end-requires-clause-desk g c κs within = c.in_ok-desk.ensures c.args.frontier.now.entries
