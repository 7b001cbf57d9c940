-- Marks over ranks, as bits of words.
use Rattle.std.specs.Prelude.{◌≡◌, ℕ, zero, suc, Bool, List, [], ◌∷◌, length, count_by}
use Rattle.grid.specs.Masks.{has_bit, word_count}

-- the marks of n ranks from k on
abbrev pub marks_from : List ℕ → ℕ → ℕ → List Bool
marks_from words k zero = []
marks_from words k (suc n) = has_bit words k ∷ marks_from words (suc k) n

-- the marks of len ranks
abbrev pub marks_of : List ℕ → ℕ → List Bool
marks_of words len = marks_from words 0 len

-- the words have a bit for each of len ranks, and set of these are set
pub record AreRankBits (words : List ℕ) (len set : ℕ) : Type 0 where
  pub enough : length words ≡ word_count len
  pub counted : set ≡ count_by (λ b. b) (marks_of words len)
