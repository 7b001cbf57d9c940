-- What contracts see of the boxes and the room that were found.
use Rattle.std.specs.Prelude.{ℕ, List}

-- the squares of the held boxes and those of the room, as words of bits
pub record SetsView : Type 0 where
  pub held : List ℕ
  pub room : List ℕ
