-- The least play with given pushes.
use Rattle.std.specs.Prelude.{◌≡◌, true, false, List, [], ◌∷◌, ◌++◌}
use Rattle.std.specs.Ordering.{is_gt}
use Rattle.grid.specs.declared.dir.Dir.{Dir}
use Rattle.grid.specs.declared.square.Push.{Push}
use Rattle.grid.specs.declared.moves.Letter.{Letter}
use Rattle.grid.specs.Board.{Board, Scene, start, dir_cmp, next, opposite}
use Rattle.grid.specs.Plays.{Play, Any, shortlex, letters_of}
use Rattle.area.specs.LeastWalks.{IsLeastWalk, walk_letters}

-- some play from the start has these pushes
abbrev pub ArePlayed : Board → List Push → Type 0
ArePlayed board pushes = (ds : List Dir) × (t : Scene) × Play board Any (start board) ds pushes t

-- each play from the start with these pushes comes to the state t right after the last of them, and then walks
abbrev pub AllComeTo : Board → List Push → Scene → Type 0
AllComeTo board pushes t =
    (es : List Dir) (u : Scene) → Play board Any (start board) es pushes u
    → (fs : List Dir) × (ws : List Dir) × (es ≡ fs ++ ws) × Play board Any (start board) fs pushes t ×
    Play board Any t ws [] u

-- the letters write a play from the start with these pushes to the state t right after the last of them, and no play
-- with these pushes is shorter, or as short and of a lesser text
pub record WritesLeastPlay (board : Board) (pushes : List Push) (t : Scene) (letters : List Letter) : Type 0 where
  pub dirs : List Dir
  pub play : Play board Any (start board) dirs pushes t
  pub written : letters_of play ≡ letters
  pub least : (es : List Dir) (u : Scene) → Play board Any (start board) es pushes u →
      is_gt (shortlex dir_cmp dirs es) ≡ false
  pub common : AllComeTo board pushes t

-- the letters of the least walk behind a box, and of the push, are appended
pub record WritesPush (board : Board) (s : Scene) (p : Push) (before after : List Letter) : Type 0 where
  pub walk : List Dir
  pub least : IsLeastWalk board s walk (next board p.square (opposite p.dir))
  pub written : after ≡ (before ++ walk_letters walk) ++ record { dir = p.dir; push = true } ∷ []
