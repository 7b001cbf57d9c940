use Rattle.layers.proofs.lemmas.Shares.{share_upto, shares_sum}
use Rattle.layers.proofs.laws.the_shares_make_up_the_layer.Goals as goal

pub returns : goal.returns
returns c = record {
  sum = λ level shares k lists layer lawful some are whole. shares_sum level lawful shares k lists are layer whole some;
  part = λ level shares share k list layer lawful part whole. share_upto level lawful shares share k list layer part whole;
}
