use Rattle.std.proofs.Common.{ap, ◌∙◌}
use Rattle.successors.specs.Problems.{Problem}
use Rattle.successors.specs.Capping.{capped}
use Rattle.layers.proofs.Expanded.{of_place}
use Rattle.layers.proofs.expanding.expand_over.Goals as goal

pub returns-clause-successors : goal.returns-clause-successors
returns-clause-successors c =
    let s = c.ranked_position-ranked.result in let v = c.args.layer.now in
    of_place v.places c.args.rank s.position c.ranked_position-ranked.ensures.place (capped c.level.result.now s.cap) v.level
    ((λ i. capped ((c.level.ensures ∙ ap (λ (t : Problem). t.board) c.requires.problem) i) s.cap) ∙ c.ranked_position-ranked.ensures.level) s.layer
    v.number c.ranked_position-ranked.ensures.of.0 c.of.result.successors c.of.ensures.successors
