-- Laws of the player's room.
use Rattle.std.proofs.Common.{◌≡◌, ℕ, ◌<◌, false, length, arith}
use Rattle.grid.specs.declared.dir.Dir.{Dir}
use Rattle.grid.specs.Board.{Board, is_wall, next, start}
use Rattle.grid.specs.Lawful.{IsLevel, InRoom}
use Rattle.grid.specs.Lawful.InRoom.{here, beside}
use Rattle.grid.proofs.lemmas.Levels.{start_is_scene}
use Rattle.grid.proofs.lemmas.Steps.{inside_grid, next_bound}

-- a room has no walls
pub room_floor : (board : Board) → IsLevel board → {q : ℕ} → InRoom board q → is_wall board q ≡ false
unfolding start
room_floor board level here = (start_is_scene board level).player.0
room_floor board level (beside d from floor) = floor

-- and no square at the grid's edge
pub room_inner : (board : Board) → IsLevel board → (q : ℕ) (d : Dir) → InRoom board q → next board q d < length board.cells
room_inner board level q d r =
    let le = next_bound board q d (inside_grid board q (room_floor board level r)) in
    let ne : next board q d ≡ length board.cells → ⊥ = λ e. level.lawful.closed (q, d, r, e) in
    omega (arith, le, ne)
