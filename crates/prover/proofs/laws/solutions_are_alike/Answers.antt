use Rattle.prover.proofs.lemmas.Parity.{solutions_alike, two_less_decide, few_decide}
use Rattle.prover.proofs.laws.solutions_are_alike.Goals as goal

pub returns-clause-alike : goal.returns-clause-alike
returns-clause-alike c = solutions_alike c.args.level.now

pub returns-clause-two : goal.returns-clause-two
returns-clause-two c = two_less_decide c.args.level.now

pub returns-clause-few : goal.returns-clause-few
returns-clause-few c = few_decide c.args.level.now
