-- What contracts see of the memory that searches work in.
use Rattle.std.specs.Prelude.{ℕ}
use Rattle.grid.specs.Squares.{Squares}

-- for how many squares the memory was made, the squares that the last flood reached, and those of the boxes round which
-- it went
pub record Reach : Type 0 where
  pub size : ℕ
  pub reached : Squares
  pub boxes : Squares
