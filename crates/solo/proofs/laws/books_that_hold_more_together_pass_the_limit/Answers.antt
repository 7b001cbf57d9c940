use Rattle.solo.proofs.lemmas.Together.{more_limit}
use Rattle.solo.proofs.laws.books_that_hold_more_together_pass_the_limit.Goals as goal

pub returns : goal.returns
returns c = more_limit
