use Rattle.std.proofs.Common.{length, ap, ◌∙◌}
use Rattle.grid.specs.Board.{Board}
use Rattle.grid.specs.Lawful.{box_count}
use Rattle.shortest.proofs.near.search_near.Goals as goal

pub find_in-find-requires-clause-list : goal.find_in-find-requires-clause-list
find_in-find-requires-clause-list g c = record {
  boxes = c.of-kept.ensures.boxes ∙ (c.boxes.ensures ∙ ap (λ (b : Board). box_count b) c.level-level.ensures);
  squares = c.of-kept.ensures.squares ∙ (c.squares.ensures ∙ ap (λ (b : Board). length b.cells) c.level-level.ensures);
}
