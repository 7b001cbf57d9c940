use Rattle.solo.proofs.lemmas.Iterations.{over_limit}
use Rattle.solo.proofs.laws.a_book_that_is_over_passes_the_limit.Goals as goal

pub returns : goal.returns
returns c = over_limit
