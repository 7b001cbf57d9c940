-- The squares that flags mark.
use Rattle.std.specs.Prelude.{Bool, List}
use Rattle.grid.specs.Squares.{Squares, places_from}

-- the squares that a list of flags marks
abbrev pub marked : List Bool → Squares
marked flags = places_from (λ b. b) 0 flags
