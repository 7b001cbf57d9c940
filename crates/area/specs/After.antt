-- A push from somewhere in an area.
use Rattle.std.specs.Prelude.{◌≡◌, ℕ, true, ◌↔◌}
use Rattle.grid.specs.declared.square.Push.{Push}
use Rattle.grid.specs.Squares.{Squares, contains, insert, remove}
use Rattle.grid.specs.Board.{Board, Scene, IsFree, next, opposite}
use Rattle.area.specs.Area.{Area}

-- the squares are those that the player walks to
abbrev pub IsAreaOf : Board → Scene → Squares → Type 0
IsAreaOf board s reached = (q : ℕ) → (contains reached q ≡ true) ↔ Area board s q

-- t is s after a walk and the push: the player walks to the square behind the box, and the box goes one square on,
-- where there is neither wall nor box
pub record IsPushed (board : Board) (s : Scene) (p : Push) (t : Scene) : Type 0 where
  pub there : contains s.boxes p.square ≡ true
  pub behind : Area board s (next board p.square (opposite p.dir))
  pub ahead : IsFree board s.boxes (next board p.square p.dir)
  pub after : t ≡ record { boxes = insert (remove s.boxes p.square) (next board p.square p.dir); player = p.square }
