use Rattle.std.proofs.Common.{◌≡◌, ℕ, ◌+◌, ◌<◌, ◌↔◌}
use Rattle.std.specs.Int.{bit_at}
use Rattle.grid.specs.Lawful.{InRoom}
use Rattle.grid.proofs.masks.room_word.Given as goal

abbrev pub invariant-loop-bit : goal.invariant-loop-bit
invariant-loop-bit l = (j : ℕ) → (bit_at l.word j ≡ 1) ↔ ((j < l.bit) × InRoom l.board (l.first + j))
