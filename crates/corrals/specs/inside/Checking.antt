-- What the check of a corral looks at, square by square.
use Rattle.std.specs.Prelude.{◌≡◌, ℕ, Bool, true, ◌&&◌, ◌||◌, not, nat_lt, length}
use Rattle.std.specs.List.{list_all, list_any}
use Rattle.grid.specs.declared.dir.Dir.{Dir}
use Rattle.grid.specs.declared.dir.Dir.TheVariants.{D, L, R, U}
use Rattle.grid.specs.Squares.{Squares, contains}
use Rattle.grid.specs.Board.{Board, Scene, is_wall, is_goal, next}
use Rattle.corrals.specs.Corrals.{IsReady}

-- beside the square is a wall, a square of the room or a held box
abbrev pub shut_beside : Board → (ℕ → Bool) → (ℕ → Bool) → ℕ → Dir → Bool
shut_beside board held room q d = is_wall board (next board q d) || (room (next board q d) || held (next board q d))

-- `shut_beside` in each direction, and the square has no box
abbrev pub shut_round : Board → Squares → (ℕ → Bool) → (ℕ → Bool) → ℕ → Bool
shut_round board boxes held room q =
    nat_lt q (length board.cells) &&
    (not (contains boxes q) &&
    (shut_beside board held room q D &&
    (shut_beside board held room q L && (shut_beside board held room q R && shut_beside board held room q U))))

-- each of the squares is one of the level
abbrev pub are_inside : Board → Squares → Bool
are_inside board xs = list_all (λ q. nat_lt q (length board.cells)) xs

-- one of the boxes is off goal, or one of the squares has a goal
abbrev pub has_to_change : Board → Squares → Squares → Bool
has_to_change board boxes squares =
    list_any (λ q. not (is_goal board q)) boxes || list_any (λ q. is_goal board q) squares

-- the square has a box, and each of its pushes is ready
abbrev pub IsReadyBox : Board → ℕ → (ℕ → Bool) → (ℕ → Bool) → Scene → ℕ → Type 0
IsReadyBox board m held room s b = (contains s.boxes b ≡ true) × ((d : Dir) → IsReady board m held room s b d)
