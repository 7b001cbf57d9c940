-- The words of the room's mask.
use Rattle.std.specs.Prelude.{◌≡◌, ℕ, ◌+◌, ◌*◌, ◌<◌, ◌↔◌}
use Rattle.std.specs.Int.{bit_at}
use Rattle.grid.specs.declared.masks.TheConstants.{WORD_BITS}
use Rattle.grid.specs.Board.{Board}
use Rattle.grid.specs.Lawful.{InRoom}

-- the bits of the word say which squares of the word at a place are of the player's room
abbrev pub IsRoomAt : Board → ℕ → ℕ → Type 0
IsRoomAt board place word = (j : ℕ) → j < WORD_BITS → (bit_at word j ≡ 1) ↔ InRoom board (WORD_BITS * place + j)
