-- The number of positions that books hold.
use Rattle.std.specs.Prelude.{◌≡◌, ℕ, ◌+◌, List, length, sum_by}
use Rattle.grid.specs.Board.{Scene}
use Rattle.successors.specs.Layered.{IsIn}
use Rattle.successors.specs.Problems.{Problem}
use Rattle.successors.specs.Reaching.{total}
use Rattle.successors.specs.Distances.{AreDistinct, IsAtDistance}
use Rattle.layers.specs.BookView.{BookView}

-- the number of positions of a book: closed and open ones
abbrev pub held : BookView → ℕ
held v = total v.closed + length v.waiting

-- the sum over books
abbrev pub all_held : List BookView → ℕ
all_held books = sum_by held books

-- layer k has at least many different positions
pub record AreManyIn (problem : Problem) (k many : ℕ) : Type 0 where
  pub places : List Scene
  pub distinct : AreDistinct places
  pub away : (m : Scene) → IsIn places m → IsAtDistance problem m k
  pub count : length places ≡ many
