-- The fewest pushes of a solution, and levels without a solution.
use Rattle.std.specs.Prelude.{◌≡◌, ℕ, ◌≤◌, List, length}
use Rattle.grid.specs.declared.dir.Dir.{Dir}
use Rattle.grid.specs.declared.square.Push.{Push}
use Rattle.successors.specs.Problems.{Problem}
use Rattle.solo.specs.Answers.{IsSolutionOf}

-- no play solves the level within the cap
abbrev pub HasNoneWithin : Problem → Type 0
HasNoneWithin problem = (ds : List Dir) (ps : List Push) → ¬ (IsSolutionOf problem ds ps)

-- k is the least number of pushes of a solution within the cap
abbrev pub IsFewest : Problem → ℕ → Type 0
IsFewest problem k =
    ((ds : List Dir) × (ps : List Push) × IsSolutionOf problem ds ps × (length ps ≡ k))
    × ((ds : List Dir) (ps : List Push) → IsSolutionOf problem ds ps → k ≤ length ps)
