-- Sets of squares as bits of words: bit i of word k is the square WORD_BITS * k + i.
use Rattle.std.specs.Prelude.{ℕ, ◌+◌, ◌-◌, ◌/◌, ◌%◌, Bool, ◌==◌, List, slice_index_or}
use Rattle.std.specs.Int.{bit_at}
use Rattle.grid.specs.declared.dir.Dir.{Dir}
use Rattle.grid.specs.declared.dir.Dir.TheVariants.{D, L, R, U}
use Rattle.grid.specs.declared.around.Around.{Around}
use Rattle.grid.specs.declared.masks.TheConstants.{WORD_BITS}

-- the set that the words show has the square
unfoldable pub has_bit : List ℕ → ℕ → Bool
has_bit words q = bit_at (slice_index_or words (q / WORD_BITS) 0) (q % WORD_BITS) == 1

-- how many words have a bit for each of n squares
unfoldable pub word_count : ℕ → ℕ
word_count n = (n + (WORD_BITS - 1)) / WORD_BITS

-- the square that is kept for a direction
abbrev pub square_to : Dir → Around → ℕ
square_to D around = around.d
square_to L around = around.l
square_to R around = around.r
square_to U around = around.u
