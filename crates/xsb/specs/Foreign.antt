-- Lines that look like boards of other characters.
use Rattle.std.specs.Prelude.{ℕ, Bool, ◌==◌, ◌&&◌, ◌||◌, not, nat_lt, List, length, filter}

-- the byte is a wall of another program, one of X x H h W w % =, or a part of a character beyond ASCII in UTF-8 or of one in
-- UTF-16
abbrev pub is_foreign : ℕ → Bool
is_foreign b = (b == 88) || (b == 120) || (b == 72) || (b == 104) || (b == 87) || (b == 119) || (b == 37) || (b == 61) ||
    (b == 0) || nat_lt 127 b

-- the line looks like a board of other characters: it has at least three foreign bytes, and these are more than its
-- other bytes that are no spaces
abbrev pub looks_foreign : List ℕ → Bool
looks_foreign line = nat_lt 2 (length (filter is_foreign line)) &&
    nat_lt (length (filter (λ b. not (is_foreign b || (b == 32))) line)) (length (filter is_foreign line))
