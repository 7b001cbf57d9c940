-- The lengths of shortest walks.
use Rattle.std.specs.Prelude.{◌≡◌, ℕ, ◌+◌, ◌-◌, ◌≤◌, List, length, slice_index}
use Rattle.grid.specs.declared.dir.Dir.{Dir}
use Rattle.grid.specs.Board.{Board, Scene}
use Rattle.area.specs.Area.{Area}
use Rattle.area.specs.LeastWalks.{IsWalk}
use Rattle.area.specs.declared.spread.TheConstants.{BOX_MARK}

-- some walk from s to the square q has this length, and none is shorter
pub record IsWalkLength (board : Board) (s : Scene) (q n : ℕ) : Type 0 where
  pub some : (ds : List Dir) × IsWalk board s ds q × (length ds ≡ n)
  pub least : (es : List Dir) → IsWalk board s es q → n ≤ length es

-- the length that the marks of a search give for the square q
abbrev pub walk_length : List ℕ → ℕ → ℕ
walk_length marks q = slice_index marks q - (BOX_MARK + 1)

-- `IsWalkLength` for each square that the player walks to
abbrev pub AreWalkLengths : Board → Scene → List ℕ → Type 0
AreWalkLengths board s marks = (q : ℕ) → Area board s q → IsWalkLength board s q (walk_length marks q)
