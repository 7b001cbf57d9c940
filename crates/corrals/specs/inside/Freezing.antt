-- Boxes of which one was pushed on, as a list.
use Rattle.std.specs.Prelude.{◌≡◌, ◌≢◌, ◌<◌, ◌⊎◌, ℕ, true, List, length, slice_index_or}
use Rattle.grid.specs.Squares.{Squares, contains}
use Rattle.grid.specs.Board.{Board}

-- the square is one of the level, and that ahead of the pushed box or that of another box
abbrev pub IsMoved : Board → Squares → ℕ → ℕ → ℕ → Type 0
IsMoved board boxes b ahead q = (q < length board.cells) × ((ahead ≡ q) ⊎ ((contains boxes q ≡ true) × (b ≢ q)))

-- each square of the list is the one ahead of the pushed box or that of another box
abbrev pub AreMoved : Board → Squares → ℕ → ℕ → List ℕ → Type 0
AreMoved board boxes b ahead moved = (i : ℕ) → i < length moved → IsMoved board boxes b ahead (slice_index_or moved i 0)
