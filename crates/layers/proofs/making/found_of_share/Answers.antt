use Rattle.std.proofs.Common.{◌≤◌, List, length, ap, sym, subst, ◌∙◌}
use Rattle.grid.specs.Board.{Board}
use Rattle.store.specs.Entries.{Closed}
use Rattle.layers.specs.BookView.{IsShareOfLayer}
use Rattle.layers.proofs.lemmas.BookFields.{first_fits}
use Rattle.layers.proofs.First.{first_few}
use Rattle.layers.proofs.making.found_of_share.Goals as goal

pub of-requires-clause-few : goal.of-requires-clause-few
of-requires-clause-few c =
    first_fits c.args.problem.now.board c.boxes.result c.squares-squares.result c.first_of_share-own.result c.boxes.ensures (c.squares-squares.ensures
    ∙ ap (λ (b : Board). length b.cells) c.level.ensures) c.first_of_share-own.ensures.fits

pub returns-clause-layer : goal.returns-clause-layer
returns-clause-layer c = (
  subst (λ (es : List Closed). IsShareOfLayer c.args.problem.now c.args.shares c.args.share 0 es) (sym c.in_ok-found.ensures.seen)
      c.first_of_share-own.ensures.layer,
  subst (λ (es : List Closed). length es ≤ 1) (sym c.in_ok-found.ensures.seen) (first_few c.first_of_share-own.result),
)

pub returns-clause-size : goal.returns-clause-size
returns-clause-size c = (
  c.in_ok-found.ensures.boxes ∙ c.boxes.ensures,
  c.in_ok-found.ensures.squares ∙ c.squares-squares.ensures ∙ ap (λ (b : Board). length b.cells) c.level.ensures,
)
