-- The parity of a level's solutions, counted square by square.
use Rattle.std.specs.Prelude.{ℕ, suc, zero, ◌+◌, ◌/◌, ◌%◌, Bool, true, false, not, ◌&&◌}
use Rattle.grid.specs.Board.{Board, is_goal}
use Rattle.grid.specs.States.{has_box}
use Rattle.prover.specs.Parity.{is_odd}

-- exactly one of the two is true
abbrev pub differ : Bool → Bool → Bool
differ true b = not b
differ false b = b

-- the sum of the row and the column of the square is odd
abbrev pub is_odd_square : Board → ℕ → Bool
is_odd_square board q = is_odd (q / board.cols + q % board.cols)

-- the square turns the parity: that sum is odd, and counts once, since the square has a box or a goal at the start, but
-- not both
abbrev pub turns_parity : Board → ℕ → Bool
turns_parity board q = differ (has_box board q) (is_goal board q) && is_odd_square board q

-- an odd number of the first squares turn the parity
abbrev pub odd_below : Board → ℕ → Bool
odd_below board zero = false
odd_below board (suc n) = differ (odd_below board n) (turns_parity board n)
