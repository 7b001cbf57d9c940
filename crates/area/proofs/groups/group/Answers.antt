use Rattle.std.proofs.Common.{not, length, ap, ◌∙◌}
use Rattle.grid.proofs.lemmas.Steps.{inside_grid}
use Rattle.area.proofs.Chains.{ring, group_begun, group_found}
use Rattle.area.proofs.lemmas.Flooding.{words_enough}
use Rattle.area.proofs.groups.group.Goals as goal

pub put_all-requires : goal.put_all-requires
put_all-requires c = λ q h. words_enough (length c.args.level.now.cells) (length c.args.others.now) q c.requires.places
    (inside_grid c.args.level.now q (c.requires.clear q h))

pub flood_from-requires-clause-floor : goal.flood_from-requires-clause-floor
flood_from-requires-clause-floor c = c.requires.clear c.args.square c.requires.there

pub flood_from-requires-clause-free : goal.flood_from-requires-clause-free
flood_from-requires-clause-free c =
    c.turn_over.ensures.turned c.args.square (words_enough (length c.args.level.now.cells) (length c.put_all.new.self) c.args.square
    (c.put_all.ensures.size ∙ c.requires.places) (inside_grid c.args.level.now c.args.square (c.requires.clear c.args.square c.requires.there))) ∙
    ap not (c.put_all.ensures.put c.args.square ∙ c.requires.there)

pub returns-clause-group : goal.returns-clause-group
returns-clause-group c =
    group_found c.args.level.now c.args.boxes.now c.args.square c.flood_from.new.reached c.requires.clear c.requires.there
    (c.flood_from.ensures.reached (ring c.args.level.now c.args.boxes.now c.requires.clear c.args.square)
    (group_begun c.args.level.now c.args.boxes.now c.args.square c.turn_over.new.self c.clear.new.self c.requires.clear c.requires.there
    (λ x lt. c.turn_over.ensures.turned x (words_enough (length c.args.level.now.cells) (length c.put_all.new.self) x
    (c.put_all.ensures.size ∙ c.requires.places) lt) ∙ ap not (c.put_all.ensures.put x)) c.clear.ensures.none))
