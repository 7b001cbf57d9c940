-- Least walks, and what a search for one answers.
use Rattle.std.specs.Prelude.{◌≡◌, ℕ, Bool, true, false, List, [], ◌∷◌, ◌++◌}
use Rattle.std.specs.Ordering.{is_gt}
use Rattle.grid.specs.declared.dir.Dir.{Dir}
use Rattle.grid.specs.declared.moves.Letter.{Letter}
use Rattle.grid.specs.Board.{Board, Scene, dir_cmp}
use Rattle.grid.specs.Plays.{Play, Any, shortlex}
use Rattle.area.specs.Area.{at}

-- the directions of a play without a push from s to the square q
abbrev pub IsWalk : Board → Scene → List Dir → ℕ → Type 0
IsWalk board s ds q = Play board Any s ds [] (at s q)

-- ds is the walk from s to q that comes first: no walk to q is shorter, and of those of its length none has the
-- lesser text in the order d, l, r, u
pub record IsLeastWalk (board : Board) (s : Scene) (ds : List Dir) (q : ℕ) : Type 0 where
  pub walk : IsWalk board s ds q
  pub least : (es : List Dir) → IsWalk board s es q → is_gt (shortlex dir_cmp ds es) ≡ false

-- the letters of steps that push no box
abbrev pub walk_letters : List Dir → List Letter
walk_letters [] = []
walk_letters (d ∷ ds) = record { dir = d; push = false } ∷ walk_letters ds

-- what a search for a walk from s to q answers, and what it appends to a list of letters: the least walk, or
-- nothing where there is none
abbrev pub WalkAnswer : Board → Scene → ℕ → List Letter → List Letter → Bool → Type 0
WalkAnswer board s q before after true =
    (ds : List Dir) × IsLeastWalk board s ds q × (after ≡ before ++ walk_letters ds)
WalkAnswer board s q before after false = ((ds : List Dir) → ¬ (IsWalk board s ds q)) × (after ≡ before)
