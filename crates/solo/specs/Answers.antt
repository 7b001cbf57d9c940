-- The answer to a level, a cap of pushes and a limit of positions.
use Rattle.std.specs.Prelude.{◌≡◌, ℕ, suc, ◌+◌, ◌-◌, ◌<◌, ◌≤◌, List, [], length, slice_get, Option, None, Some}
use Rattle.grid.specs.declared.dir.Dir.{Dir}
use Rattle.grid.specs.declared.square.Push.{Push}
use Rattle.grid.specs.declared.moves.Letter.{Letter}
use Rattle.grid.specs.Board.{Board, Scene, IsSolved, start}
use Rattle.grid.specs.Plays.{Play, Any, IsSolution, IsLeastSolution, dirs_of, letters_of}
use Rattle.successors.specs.Layered.{IsIn}
use Rattle.successors.specs.Problems.{Problem}
use Rattle.successors.specs.Reaching.{AreLayersOf, total}
use Rattle.successors.specs.Distances.{AreDistinct, IsAtDistance}
use Rattle.solo.specs.declared.answer.Answer.{Answer}
use Rattle.solo.specs.declared.answer.Answer.TheVariants.{Solved, Unsolvable, NoneWithin, Limit}

-- the letters write the least solution, and pushes is its number of pushes
pub record WritesLeastSolution (board : Board) (letters : List Letter) (pushes : ℕ) : Type 0 where
  pub list : List Push
  pub end : Scene
  pub play : Play board Any (start board) (dirs_of letters) list end
  pub written : letters_of play ≡ letters
  pub solved : IsSolved board end
  pub least : IsLeastSolution board (dirs_of letters) list
  pub count : length list ≡ pushes

-- the number of pushes is within the cap, if one is set
abbrev pub KeepsCap : Option ℕ → ℕ → Type 0
KeepsCap None pushes = Unit {0}
KeepsCap (Some most) pushes = pushes ≤ most

-- a solution of the level whose pushes are within the cap
abbrev pub IsSolutionOf : Problem → List Dir → List Push → Type 0
IsSolutionOf problem ds ps = IsSolution problem.board ds ps × KeepsCap problem.cap (length ps)

-- positions is the number of positions of the first n layers of the level under its cap
abbrev pub HaveTotal : Problem → ℕ → ℕ → Type 0
HaveTotal problem n positions =
    (layers : List (List Scene)) × AreLayersOf problem layers × (length layers ≡ n) × (total layers ≡ positions)

-- positions is the number of positions of all layers of the level under its cap: the last of these layers is the first
-- empty one, so later ones are empty too
pub record HasInAll (problem : Problem) (positions : ℕ) : Type 0 where
  pub layers : List (List Scene)
  pub are : AreLayersOf problem layers
  pub last : slice_get layers (length layers - 1) ≡ Some []
  pub first : (j : ℕ) → slice_get layers j ≡ Some [] → j ≡ length layers - 1
  pub total : total layers ≡ positions

-- the positions that are needed are more than the limit: those of the layers before some layer k together with some
-- positions of layer k, while each solution within the cap has k pushes or more
pub record PassesLimit (problem : Problem) (limit : ℕ) : Type 0 where
  pub layers : List (List Scene)
  pub are : AreLayersOf problem layers
  pub more : List Scene
  pub distinct : AreDistinct more
  pub next : (n : Scene) → IsIn more n → IsAtDistance problem n (length layers)
  pub passed : limit < total layers + length more
  pub unsolved : (ds : List Dir) (ps : List Push) → IsSolutionOf problem ds ps → length layers ≤ length ps

-- no play solves the level within the cap, and positions is the number of positions of all its layers, at most the
-- limit
abbrev pub HasNone : Problem → ℕ → ℕ → Type 0
HasNone problem limit positions =
    ((ds : List Dir) (ps : List Push) → ¬ (IsSolutionOf problem ds ps)) × HasInAll problem positions × (positions ≤ limit)

-- the answer: the least solution, with its number of pushes, which are within the cap, and the number of positions of
-- the layers up to it, under the cap; or that no play ends solved, within the cap if one is set, with the number of
-- positions of all layers under the cap; or that the limit is passed
abbrev pub IsAnswer : Problem → ℕ → Answer → Type 0
IsAnswer problem limit (Solved moves pushes positions) =
    WritesLeastSolution problem.board moves pushes × HaveTotal problem (suc pushes) positions × (positions ≤ limit) ×
    KeepsCap problem.cap pushes
IsAnswer problem limit (Unsolvable positions) = (problem.cap ≡ None) × HasNone problem limit positions
IsAnswer problem limit (NoneWithin positions) = ¬ (problem.cap ≡ None) × HasNone problem limit positions
IsAnswer problem limit Limit = PassesLimit problem limit
