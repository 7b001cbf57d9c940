-- What a push leads to, and the successors of a position.
use Rattle.std.specs.Prelude.{ℕ, suc, List, [], ◌∷◌}
use Rattle.grid.specs.declared.dir.Dir.{Dir}
use Rattle.grid.specs.declared.square.Push.{Push}
use Rattle.grid.specs.Board.{Board, Scene, next}
use Rattle.grid.specs.Plays.{Play}
use Rattle.area.specs.Area.{IsNorm}
use Rattle.doom.specs.Deadlocks.{Undoomed}
use Rattle.successors.specs.Problems.{Problem}
use Rattle.successors.specs.Capping.{Admits}
use Rattle.grid.specs.Squares.{insert, remove}

-- the state after the push: the box one square on, and the player where the box was
abbrev pub after_push : Board → Scene → Push → Scene
after_push board n p =
    record { boxes = insert (remove n.boxes p.square) (next board p.square p.dir); player = p.square }

-- m is an undoomed successor of n by a push: a play from n with that push alone ends in a state of the normal form m
abbrev pub IsSuccessor : Board → Scene → Push → Scene → Type 0
IsSuccessor board n p m = (ds : List Dir) × (t : Scene) × Play board (Undoomed board) n ds (p ∷ []) t × IsNorm board t m

-- m is such a successor of a position of layer k, and is admitted in the next layer
abbrev pub IsSuccessorIn : Problem → ℕ → Scene → Push → Scene → Type 0
IsSuccessorIn problem k n p m = IsSuccessor problem.board n p m × Admits problem (suc k) m
