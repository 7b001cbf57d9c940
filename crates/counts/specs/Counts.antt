-- Counts: decimal digits that say how often the byte right after them is repeated.
use Rattle.std.specs.Prelude.{◌≡◌, ℕ, ◌-◌, ◌≤◌, Bool, true, false, ◌⊎◌, List, [], ◌∷◌, length, map}
use Rattle.std.specs.Char.{is_ascii_digit}
use Rattle.std.specs.Int.Digits.{number_from_digits}
use Rattle.std.specs.List.{AllByRecursion}

-- every byte is a decimal digit
abbrev pub AreDigits : List ℕ → Type 0
AreDigits bytes = AllByRecursion (λ b. is_ascii_digit b ≡ true) bytes

-- the bytes begin with a digit
abbrev pub begins_with_digit : List ℕ → Bool
begins_with_digit [] = false
begins_with_digit (b ∷ bs) = is_ascii_digit b

-- the number that decimal digits write; the byte of the digit 0 is 48
abbrev pub decimal : List ℕ → ℕ
decimal digits = number_from_digits 10 (map (λ b. b - 48) digits)

-- a count: one to four digits that write a number from 1 on; leading zeros are allowed
pub record IsCount (digits : List ℕ) : Type 0 where
  pub all : AreDigits digits
  pub short : length digits ≤ 4
  pub positive : 1 ≤ decimal digits

-- how often the byte after these digits is repeated: once if there are none
abbrev pub repeats : List ℕ → ℕ
repeats [] = 1
repeats (b ∷ bs) = decimal (b ∷ bs)

-- a count or no digit at all, after which something is meant n times
abbrev pub Means : List ℕ → ℕ → Type 0
Means digits n = ((digits ≡ []) ⊎ IsCount digits) × (n ≡ repeats digits)
