use Rattle.layers.proofs.lemmas.Holdings.{held_all}
use Rattle.layers.proofs.laws.the_books_of_all_shares_hold_the_layers_and_some_of_the_next.Goals as goal

pub returns : goal.returns
returns c = held_all
