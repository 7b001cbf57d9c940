use Rattle.layers.proofs.lemmas.Shares.{closed_upto, last_shares, books_total}
use Rattle.layers.proofs.laws.the_books_of_all_shares_hold_the_layers.Goals as goal

pub returns : goal.returns
returns c = record {
  last = λ books all lawful. last_shares books all lawful;
  total = λ books all lawful layers are long. books_total books all lawful layers are long;
  part = λ book layers lawful are few. closed_upto book lawful layers are few;
}
