use Rattle.store.proofs.EntriesOf.{least_set}
use Rattle.store.proofs.labels.Labels.set_least.Goals as goal

pub returns-clause-set : goal.returns-clause-set
returns-clause-set g c =
    let a = c.self.inside in
    least_set a.boxes a.squares a.map.entries c.args.place c.args.least c.index_mut.result.now c.args.self.now c.self.view_is c.index_mut.ensures.value
