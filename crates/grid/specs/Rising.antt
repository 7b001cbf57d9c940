-- Rising lists of numbers: the lists that are sets of squares.
use Rattle.std.specs.Prelude.{ℕ, suc, Bool, true, ◌&&◌, nat_le, List, [], ◌∷◌}

-- each number is at least k and less than those after it
abbrev pub rises_from : ℕ → List ℕ → Bool
rises_from k [] = true
rises_from k (x ∷ xs) = nat_le k x && rises_from (suc x) xs

-- each number is less than those after it
abbrev pub is_rising : List ℕ → Bool
is_rising xs = rises_from 0 xs
