-- How bytes are cut into lines.
use Rattle.std.specs.Prelude.{ℕ, cond, ◌==◌, nat_eq, List, [], ◌∷◌, drop, map}
use Rattle.std.specs.List.{slice_split, starts_with}

-- the three bytes of a byte order mark are skipped at the beginning
abbrev pub without_mark : List ℕ → List ℕ
without_mark bytes = cond (starts_with nat_eq bytes (0xEF ∷ 0xBB ∷ 0xBF ∷ [])) (drop 3 bytes) bytes

-- the parts between line feeds, except a last part without a byte: no empty line follows a last line feed, and an
-- empty input has no line
abbrev pub without_last_empty : List (List ℕ) → List (List ℕ)
without_last_empty [] = []
without_last_empty ([] ∷ []) = []
without_last_empty ((b ∷ part) ∷ []) = (b ∷ part) ∷ []
without_last_empty (part ∷ next ∷ parts) = part ∷ without_last_empty (next ∷ parts)

-- the bytes without the byte c where they end in it
abbrev pub without_last : ℕ → List ℕ → List ℕ
without_last c [] = []
without_last c (b ∷ []) = cond (b == c) [] (b ∷ [])
without_last c (b ∷ next ∷ bytes) = b ∷ without_last c (next ∷ bytes)

-- the lines: each ends at a line feed, which is the byte 10, or at the end of the input, and one carriage return,
-- which is the byte 13, right before that is no part of it
unfoldable pub lines_of_text : List ℕ → List (List ℕ)
lines_of_text bytes = map (without_last 13) (without_last_empty (slice_split (λ b. b == 10) (without_mark bytes)))
