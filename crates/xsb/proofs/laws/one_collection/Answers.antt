use Rattle.xsb.proofs.OneCollection.{some-collection, one-collection}
use Rattle.xsb.proofs.laws.one_collection.Goals as goal

pub returns-clause-some : goal.returns-clause-some
returns-clause-some c = some-collection

pub returns-clause-one : goal.returns-clause-one
returns-clause-one c = one-collection
