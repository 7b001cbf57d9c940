use Rattle.std.proofs.Common.{◌≡◌, true, sym, subst}
use Rattle.grid.specs.Board.{box_cell, start}
use Rattle.grid.specs.Squares.{Squares}
use Rattle.grid.specs.Rising.{is_rising}
use Rattle.grid.proofs.lemmas.Places.{is_rising-places_from}
use Rattle.grid.proofs.position.Position.start.Goals as goal

pub invariant_of-result : goal.invariant_of-result
invariant_of-result c =
    subst (λ (xs : Squares). is_rising xs ≡ true) (sym c.first_boxes.ensures)
    (is_rising-places_from box_cell 0 c.args.level.now.cells)

pub returns-clause-start : goal.returns-clause-start
unfolding start
returns-clause-start c = cc
