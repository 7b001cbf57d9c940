use Rattle.solo.proofs.Uniqueness.{past_empty}
use Rattle.solo.proofs.laws.an_empty_layer_is_the_last.Goals as goal

pub returns : goal.returns
returns c = past_empty
