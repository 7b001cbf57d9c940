use Rattle.grid.proofs.lemmas.Directions.{each_test}
use Rattle.prices.proofs.check.lessen_from.Goals as goal

pub returns : goal.returns
returns c = each_test _ _ _ _ _ c.lessens_by_one-down.ensures c.lessens_by_one-left.ensures
    c.lessens_by_one-right.ensures c.lessens_by_one-up.ensures
