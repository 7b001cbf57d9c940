-- The positions of a level fit the grid of its boxes and squares.
use Rattle.std.proofs.Common.{◌≡◌, ℕ, true, false, List, [], ◌∷◌, length, arith}
use Rattle.grid.specs.Squares.{contains}
use Rattle.grid.specs.Board.{Board, Scene, is_wall}
use Rattle.grid.specs.Lawful.{box_count}
use Rattle.grid.specs.States.{FitsLevel}
use Rattle.grid.proofs.lemmas.Steps.{inside_grid}
use Rattle.grid.proofs.lemmas.Squares.{contains_head}
use Rattle.store.specs.FoundView.{AreBelow, FitsGrid}

contains_tail : (x : ℕ) (xs : List ℕ) (q : ℕ) → contains xs q ≡ true → contains (x ∷ xs) q ≡ true
contains_tail x xs q here = grind arith

-- squares that are no walls are on the grid
below_all : (board : Board) (xs : List ℕ) → ((q : ℕ) → contains xs q ≡ true → is_wall board q ≡ false) → AreBelow (length board.cells) xs
below_all board [] clear = tt
below_all board (x ∷ xs) clear = (inside_grid board x (clear x (contains_head x xs)), below_all board xs (λ q here. clear q (contains_tail x xs q here)))

pub level_fits : (board : Board) (boxes squares : ℕ) (m : Scene) → boxes ≡ box_count board → squares ≡ length board.cells → FitsLevel board m →
    FitsGrid boxes squares m
level_fits board boxes squares m boxes_are squares_are fits = grind (arith, inside_grid, below_all)
