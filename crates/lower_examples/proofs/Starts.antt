-- The start of a level is on the grid of its squares.
use Rattle.std.proofs.Common.{◌≡◌, ℕ, Option, Some, None, length, sym, subst}
use Rattle.std.specs.Prelude.{IfSome}
use Rattle.grid.specs.Board.{Board, Scene, start}
use Rattle.grid.specs.Lawful.{box_count}
use Rattle.grid.specs.States.{FitsLevel}
use Rattle.store.specs.FoundView.{FitsGrid}
use Rattle.store.proofs.lemmas.Fitting.{level_fits}

pub start_on_grid : (board : Board) (boxes squares : ℕ) (first : Option Scene) → boxes ≡ box_count board → squares ≡ length board.cells →
    FitsLevel board (start board) → IfSome first (λ p. p ≡ start board) → IfSome first (FitsGrid boxes squares)
start_on_grid board boxes squares None boxes_are squares_are fits is = tt
start_on_grid board boxes squares (Some m) boxes_are squares_are fits is =
    level_fits board boxes squares m boxes_are squares_are (subst (λ (p : Scene). FitsLevel board p) (sym is) fits)
