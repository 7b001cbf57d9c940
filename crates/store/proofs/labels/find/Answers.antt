use Rattle.store.proofs.Finding.{place_found}
use Rattle.store.proofs.labels.find.Goals as goal

pub returns : goal.returns
returns g c = place_found c.args.key.now c.args.map.now.entries c.get_index_of-place.result c.get_index_of-place.ensures.index
