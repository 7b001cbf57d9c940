-- What a search for the best solution may know of it, and why it fails.
use Rattle.std.specs.Prelude.{◌≡◌, ℕ, ◌<◌, List, length}
use Rattle.grid.specs.declared.dir.Dir.{Dir}
use Rattle.grid.specs.declared.square.Push.{Push}
use Rattle.grid.specs.declared.limits.TheConstants.{MAX_BOXES}
use Rattle.grid.specs.Board.{Board}
use Rattle.grid.specs.Lawful.{box_count}
use Rattle.grid.specs.Plays.{IsSolution}
use Rattle.prices.specs.declared.fault.SearchFault.{SearchFault}
use Rattle.prices.specs.declared.fault.SearchFault.TheVariants.{TooManyBoxes, OutOfMemory}
use Rattle.prices.specs.Fewest.{NoneHasFewer}

-- some solution has this number of pushes
abbrev pub SomeHas : Board → ℕ → Type 0
SomeHas board pushes = (ds : List Dir) × (ps : List Push) × IsSolution board ds ps × (length ps ≡ pushes)

-- why a search failed: the level has too many boxes; or memory ran out, and no solution has fewer pushes than the bound
abbrev pub IsFault : Board → SearchFault → Type 0
IsFault board TooManyBoxes = MAX_BOXES < box_count board
IsFault board (OutOfMemory at_least) = NoneHasFewer board at_least
