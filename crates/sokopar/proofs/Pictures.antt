-- The bytes of the cells of a board, as they are shown.
use Rattle.std.proofs.Common.{◌≡◌, ℕ, List, ◌++◌, length, get_or, slice_index, ap, ◌∙◌, subst, arith}
use Rattle.grid.specs.Board.{Board}
use Rattle.grid.specs.declared.cell.Cell.{Cell}
use Rattle.grid.specs.declared.cell.Cell.TheVariants.{Wall}
use Rattle.sokopar.specs.Explaining.{AreShown, IsShown}
use Rattle.sokopar.proofs.Maps.{HaveBytes}

-- all cells have their bytes
pub all_shown : (board : Board) (cells : List Cell) (bytes : List ℕ) → length bytes ≡ length cells → cells ≡ board.cells →
    HaveBytes (λ q b. IsShown board q (get_or cells q Wall) b) bytes → AreShown board bytes
all_shown board cells bytes count same have =
    let long = ap length same in record {
      count = count ∙ long;
      each = λ q below. subst (λ (cs : List Cell). IsShown board q (get_or cs q Wall) (slice_index bytes q)) same (have q (omega arith));
    }
