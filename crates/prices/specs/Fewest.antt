-- The fewest pushes of a level's solutions.
use Rattle.std.specs.Prelude.{ℕ, ◌≤◌, List, length}
use Rattle.grid.specs.declared.dir.Dir.{Dir}
use Rattle.grid.specs.declared.square.Push.{Push}
use Rattle.grid.specs.Board.{Board}
use Rattle.grid.specs.Plays.{IsSolution}

-- no solution has fewer pushes
abbrev pub NoneHasFewer : Board → ℕ → Type 0
NoneHasFewer board pushes = (ds : List Dir) (ps : List Push) → IsSolution board ds ps → pushes ≤ length ps
