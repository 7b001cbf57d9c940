-- What a set holds after its words were lent and written.
use Rattle.std.specs.Prelude.{ℕ, List, ◌++◌, length, take, drop}

-- the words that were written, for as many as there are
abbrev pub written_over : List ℕ → List ℕ → List ℕ
written_over old words = take (length old) (words ++ drop (length words) old)
