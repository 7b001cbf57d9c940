-- The numbers of pushes of two solutions are both even or both odd.
use Rattle.std.specs.Prelude.{◌≡◌, ℕ, suc, zero, ◌≤◌, Bool, false, not, List, length}
use Rattle.grid.specs.declared.dir.Dir.{Dir}
use Rattle.grid.specs.declared.square.Push.{Push}
use Rattle.grid.specs.Board.{Board, Scene, IsSolved, start}
use Rattle.grid.specs.States.{FitsLevel}
use Rattle.grid.specs.Plays.{Play, Any}
use Rattle.grid.specs.Lawful.{IsLevel}
use Rattle.prices.specs.Solving.{NoneWithin}
use Rattle.prices.specs.Fewest.{NoneHasFewer}
use Rattle.prices.specs.Searching.{SomeHas}

-- the number is odd
abbrev pub is_odd : ℕ → Bool
is_odd zero = false
is_odd (suc n) = not (is_odd n)

-- two plays from one state to solved ones have pushes of one parity
abbrev pub SolutionsAlike : Board → Type 0
SolutionsAlike board = IsLevel board → (s t u : Scene) (ds es : List Dir) (ps qs : List Push) → FitsLevel board s →
    Play board Any s ds ps t →
    IsSolved board t → Play board Any s es qs u → IsSolved board u → is_odd (length ps) ≡ is_odd (length qs)

-- all solutions have an odd number of pushes if `odd` is true, and an even one otherwise
abbrev pub AreOdd : Board → Bool → Type 0
AreOdd board odd = (pushes : ℕ) → SomeHas board pushes → is_odd pushes ≡ odd

-- a solution with m + 2 pushes has the fewest if no play within m pushes ends solved
abbrev pub TwoLessDecide : Board → Type 0
TwoLessDecide board = IsLevel board → (m : ℕ) → SomeHas board (suc (suc m)) → NoneWithin board m (start board) →
    NoneHasFewer board (suc (suc m))

-- a solution with fewer than two pushes has the fewest
abbrev pub FewDecide : Board → Type 0
FewDecide board = IsLevel board → (pushes : ℕ) → SomeHas board pushes → pushes ≤ 1 → NoneHasFewer board pushes
