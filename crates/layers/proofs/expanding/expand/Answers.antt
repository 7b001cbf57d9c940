use Rattle.std.proofs.Common.{◌∙◌}
use Rattle.successors.specs.Capping.{capped}
use Rattle.layers.proofs.Expanded.{of_place}
use Rattle.layers.proofs.expanding.expand.Goals as goal

pub returns-clause-successors : goal.returns-clause-successors
returns-clause-successors c =
    let s = c.ranked_position-ranked.result in let v = c.args.layer.now in
    of_place v.places c.args.rank s.position c.ranked_position-ranked.ensures.place (capped c.level.result.now s.cap) v.level
    ((λ i. capped (c.level.ensures i) s.cap) ∙ c.ranked_position-ranked.ensures.level) s.layer
    v.number c.ranked_position-ranked.ensures.of.0 c.of.result.successors c.of.ensures.successors
