-- The squares of the player's room as bits of words.
use Rattle.std.specs.Prelude.{◌≡◌, ℕ, true, ◌↔◌, List, length}
use Rattle.grid.specs.Board.{Board}
use Rattle.grid.specs.Lawful.{InRoom}
use Rattle.grid.specs.Masks.{has_bit, word_count}

-- there are words for all squares, and their bits say which squares are of the player's room
pub record IsRoomMask (board : Board) (words : List ℕ) : Type 0 where
  pub size : length words ≡ word_count (length board.cells)
  pub bits : (q : ℕ) → (has_bit words q ≡ true) ↔ InRoom board q
