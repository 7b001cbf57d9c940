-- Connected boxes: a chain of adjacent boxes links them.
use Rattle.std.specs.Prelude.{◌≡◌, ℕ, true}
use Rattle.grid.specs.declared.dir.Dir.{Dir}
use Rattle.grid.specs.Squares.{Squares, contains}
use Rattle.grid.specs.Board.{Board, next}

-- a chain of boxes leads from the first square to the second, each box beside the one before
pub data HangsWith (board : Board) (boxes : Squares) : ℕ → ℕ → Type 0 where
  itself : {q : ℕ} → contains boxes q ≡ true → HangsWith board boxes q q
  onto : {p q : ℕ} (d : Dir) → HangsWith board boxes p q → contains boxes (next board q d) ≡ true →
      HangsWith board boxes p (next board q d)
