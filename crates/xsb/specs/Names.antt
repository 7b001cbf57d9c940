-- The names of boards.
use Rattle.std.specs.Prelude.{ℕ, Bool, cond, ◌==◌, ◌||◌, nat_eq, List, [], ◌∷◌, length, drop, Option, Some, None, codes}
use Rattle.std.specs.Prelude.{unwrap_or}
use Rattle.std.specs.List.{starts_with}
use Rattle.std.specs.Option.{option_or}
use Rattle.xsb.specs.Boards.{cut_end}

-- the bytes after a prefix, where the bytes begin with it
abbrev pub after_prefix : List ℕ → List ℕ → Option (List ℕ)
after_prefix prefix bytes = cond (starts_with nat_eq bytes prefix) (Some (drop (length prefix) bytes)) None

-- the first value that a function gives on a list
abbrev pub first_some : {A B : Type 0} → (A → Option B) → List A → Option B
first_some f [] = None
first_some f (x ∷ xs) = option_or (f x) (first_some f xs)

-- the last value that a function gives on a list
abbrev pub last_some : {A B : Type 0} → (A → Option B) → List A → Option B
last_some f [] = None
last_some f (x ∷ xs) = option_or (last_some f xs) (f x)

-- a list without the elements at its beginning that pass a test
abbrev pub cut_start : {A : Type 0} → (A → Bool) → List A → List A
cut_start test [] = []
cut_start test (x ∷ xs) = cond (test x) (cut_start test xs) (x ∷ xs)

-- the byte is a space or a tab
abbrev pub is_blank : ℕ → Bool
is_blank b = (b == 32) || (b == 9)

-- spaces and tabs are cut off at both ends of a name
abbrev pub trimmed : List ℕ → List ℕ
trimmed bytes = cut_end is_blank (cut_start is_blank bytes)

-- the name of a board between two gaps: that of the last `;` line of the gap before; else that of the first `Title:`
-- line of the gap after; else the empty name. A line so chosen decides even if its name is empty
unfoldable pub name_of : List (List ℕ) → List (List ℕ) → List ℕ
name_of before after =
    trimmed (unwrap_or (option_or (last_some (after_prefix (codes ";")) before)
    (first_some (after_prefix (codes "Title:")) after)) [])
