use Rattle.layers.proofs.Histories.{new_lawful}
use Rattle.layers.proofs.laws.a_new_book_is_lawful.Goals as goal

pub returns : goal.returns
returns c = new_lawful
