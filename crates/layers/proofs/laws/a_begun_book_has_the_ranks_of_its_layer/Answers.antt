use Rattle.layers.proofs.lemmas.Books.{begun_ranks}
use Rattle.layers.proofs.laws.a_begun_book_has_the_ranks_of_its_layer.Goals as goal

pub returns : goal.returns
returns c = begun_ranks
