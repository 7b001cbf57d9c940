use Rattle.layers.proofs.Expanded.{of_place}
use Rattle.layers.proofs.expanding.expand_over_into.Goals as goal

pub returns-clause-successors : goal.returns-clause-successors
returns-clause-successors c =
    let s = c.ranked_position-ranked.result in let v = c.args.layer.now in
    of_place v.places c.args.rank s.position c.ranked_position-ranked.ensures.place c.args.problem.now v.level c.requires.problem s.layer
    v.number c.ranked_position-ranked.ensures.of.0 c.fill.new.self.successors c.fill.ensures.successors
