use Rattle.solo.proofs.Limits.{limit_solved, limit_unsolvable}
use Rattle.solo.proofs.laws.the_limit_is_passed_by_the_positions_needed.Goals as goal

pub returns-clause-solved : goal.returns-clause-solved
returns-clause-solved c = limit_solved

pub returns-clause-unsolvable : goal.returns-clause-unsolvable
returns-clause-unsolvable c = limit_unsolvable
