use Rattle.std.proofs.Common.{length, ap, ◌∙◌}
use Rattle.grid.specs.Board.{Board}
use Rattle.grid.specs.Lawful.{box_count}
use Rattle.shortest.proofs.near.list_layer.Goals as goal

pub expand_all-end-requires-clause-list : goal.expand_all-end-requires-clause-list
expand_all-end-requires-clause-list g c = record {
  boxes = c.of-listed.ensures.boxes ∙ (c.boxes.ensures ∙ ap (λ (b : Board). box_count b) c.level-level.ensures);
  squares = c.of-listed.ensures.squares ∙ (c.squares.ensures ∙ ap (λ (b : Board). length b.cells) c.level-level.ensures);
}
