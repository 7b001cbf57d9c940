-- Sets of squares as words of bits.
use Rattle.std.specs.Prelude.{ℕ, zero, suc, ◌*◌, Bool, cond, ◌==◌, List, [], ◌∷◌, length}
use Rattle.std.specs.Int.{bit_at}
use Rattle.grid.specs.declared.masks.TheConstants.{WORD_BITS}
use Rattle.grid.specs.Masks.{has_bit}
use Rattle.grid.specs.Squares.{Squares}

-- the word has a 1 at the place
unfoldable pub word_bit : ℕ → ℕ → Bool
word_bit w j = bit_at w j == 1

-- the numbers that pass a test, of the n numbers from k on
abbrev pub passing_from : (ℕ → Bool) → ℕ → ℕ → Squares
passing_from test k zero = []
passing_from test k (suc n) = cond (test k) (k ∷ passing_from test (suc k) n) (passing_from test (suc k) n)

-- the squares of the set that the words show
unfoldable pub squares_of : List ℕ → Squares
squares_of words = passing_from (has_bit words) 0 (WORD_BITS * length words)
