-- The squares next to a square.
use Rattle.std.specs.Prelude.{◌≡◌, ℕ, ◌<◌, List, length, slice_index_or}
use Rattle.grid.specs.declared.dir.Dir.TheVariants.{D, L, R, U}
use Rattle.grid.specs.declared.around.Around.{Around}
use Rattle.grid.specs.Board.{Board, next}

-- the four squares next to a square
abbrev pub around_of : Board → ℕ → Around
around_of board q = record { d = next board q D; l = next board q L; r = next board q R; u = next board q U }

-- for each square of the board the squares next to it
abbrev pub AreAround : Board → List Around → Type 0
AreAround board around = (q : ℕ) (e : Around) → q < length board.cells → slice_index_or around q e ≡ around_of board q
