-- What reading one letter with its count gives.
use Rattle.std.specs.Prelude.{◌≡◌, ℕ, ◌+◌, ◌≤◌, List, ◌++◌, length}
use Rattle.grid.specs.declared.moves.Letter.{Letter}
use Rattle.lurd.specs.declared.limits.TheConstants.{MAX_MOVES}
use Rattle.counts.specs.Counts.{repeats}
use Rattle.lurd.specs.Text.{letter_byte, item, IsPiece, spelling}

-- the bytes begin with this letter and its count, if it has one; both take `len` bytes and mean the letter `times`
-- times, and with the moves before them these are not too many
pub record TakesItem (moves : ℕ) (bytes : List ℕ) (letter : Letter) (times len : ℕ) : Type 0 where
  pub digits : List ℕ
  pub more : List ℕ
  pub cut : bytes ≡ spelling (item digits letter) ++ more
  pub lawful : IsPiece (item digits letter)
  pub counted : times ≡ repeats digits
  pub taken : len ≡ length (spelling (item digits letter))
  pub few : moves + times ≤ MAX_MOVES

-- the byte writes a letter
abbrev pub IsLetterByte : ℕ → Type 0
IsLetterByte b = (letter : Letter) × (letter_byte letter ≡ b)
