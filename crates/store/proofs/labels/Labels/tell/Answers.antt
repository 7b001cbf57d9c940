use Rattle.std.proofs.Common.{map, subst}
use Rattle.std.specs.Map.{keys_of}
use Rattle.successors.specs.Distances.{AreDistinct}
use Rattle.store.specs.Visited.{VisitedView}
use Rattle.store.proofs.EntriesOf.{keys_shown}
use Rattle.store.proofs.lemmas.Closings.{distinct_from}
use Rattle.store.proofs.labels.Labels.tell.Goals as goal

pub returns : goal.returns
returns g c =
    let es = c.self.inside.map.entries in
    subst (λ (v : VisitedView). AreDistinct (map (λ x. x.position) v.entries)) c.self.view_is
    (subst AreDistinct (keys_shown es) (distinct_from (keys_of es) c.len.ensures.unique))
