-- Shares of the positions.
use Rattle.std.specs.Prelude.{ℕ, ◌+◌, ◌%◌, sum}
use Rattle.grid.specs.Board.{Scene}

-- the share of a position: the sum of its box squares and its player's square, modulo the number of shares
abbrev pub share_of : ℕ → Scene → ℕ
share_of shares m = (sum m.boxes + m.player) % shares
