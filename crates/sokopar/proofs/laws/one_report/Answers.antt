-- The laws of collections, texts, verdicts and answers give one report.
use Rattle.sokopar.proofs.OneReport.{one_check_report, one_show_report, one_dead_report, one_replay_report, one_solve_report}
use Rattle.sokopar.proofs.laws.one_report.Goals as goal

pub returns-clause-check : goal.returns-clause-check
returns-clause-check c = one_check_report c.one_collection.ensures.one

pub returns-clause-show : goal.returns-clause-show
returns-clause-show c = one_show_report c.one_collection.ensures.one

pub returns-clause-dead : goal.returns-clause-dead
returns-clause-dead c = one_dead_report c.one_collection.ensures.one

pub returns-clause-replay : goal.returns-clause-replay
returns-clause-replay c = one_replay_report c.one_collection.ensures.one c.one_reading.ensures c.one_verdict.ensures

pub returns-clause-solve : goal.returns-clause-solve
returns-clause-solve c = one_solve_report c.one_collection.ensures.one c.an_answer_is_the_only_one.ensures
