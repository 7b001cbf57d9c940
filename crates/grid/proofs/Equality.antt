-- What `==` tells of cells and of boards.
use Rattle.std.proofs.Common.{◌≡◌, Bool, eqb, map, Decides, refl, sym, ap, ◌∙◌, arith}
use Rattle.std.specs.Cmp.Lexicographic.{pointwise}
use Rattle.std.specs.Cmp.Derive.Mapped.{pointwise-map}
use Rattle.std.proofs.lemmas.Bool.{eqb-true, eq-eqb}
use Rattle.std.proofs.lemmas.Bool.Decides.{Decides-eqb, Decides-and, Decides-like}
use Rattle.std.proofs.lemmas.Slice.Eq.{slice_eq-Decides}
use Rattle.grid.specs.declared.cell.Cell.{Cell}
use Rattle.grid.specs.declared.cell.Cell.TheVariants.{Wall, Floor, Goal, Box, BoxOnGoal, Player, PlayerOnGoal}
use Rattle.grid.specs.Board.{Board}
use Rattle.grid.specs.Equality.{cell_number, same_board}

-- cells with one number are one
pub same_cell : (a b : Cell) → cell_number a ≡ cell_number b → a ≡ b
same_cell Wall Wall e = refl
same_cell Floor Floor e = refl
same_cell Goal Goal e = refl
same_cell Box Box e = refl
same_cell BoxOnGoal BoxOnGoal e = refl
same_cell Player Player e = refl
same_cell PlayerOnGoal PlayerOnGoal e = refl
same_cell a b e = absurd (omega arith)

-- a test that goes by the numbers of cells decides whether they are one
pub cells_decide : (E : Cell → Cell → Bool) → ((a b : Cell) → E a b ≡ eqb (cell_number a) (cell_number b)) → (a b : Cell) → Decides (E a b) (a ≡ b)
cells_decide E by a b =
    (λ e. same_cell a b (eqb-true (cell_number a) (cell_number b) (sym (by a b) ∙ e)), λ e. by a b ∙ eq-eqb (cell_number a) (cell_number b) (ap cell_number e))

-- two boards with one size and the same cells are one
board_from : (a b : Board) → (a.cols ≡ b.cols) × (a.cells ≡ b.cells) → a ≡ b
board_from a b h = λ i. record { cols = h.0 i; cells = h.1 i }

pub same_board_decides : (a b : Board) → Decides (same_board a b) (a ≡ b)
same_board_decides a b =
    let E : Cell → Cell → Bool = λ x y. eqb (cell_number x) (cell_number y) in
    let by_number = pointwise-map cell_number eqb a.cells b.cells in
    let cells = slice_eq-Decides (cells_decide E (λ x y. refl)) a.cells b.cells (pointwise eqb (map cell_number a.cells) (map cell_number b.cells)) by_number in
    Decides-like (same_board a b) (board_from a b) (λ e. (ap (λ (x : Board). x.cols) e, ap (λ (x : Board). x.cells) e))
    (Decides-and (eqb a.cols b.cols) (pointwise eqb (map cell_number a.cells) (map cell_number b.cells)) (Decides-eqb a.cols b.cols) cells)
