-- When the time of a search is up.
use Rattle.std.specs.Prelude.{◌≡◌, ℕ, ◌≤◌, Option, Some}

-- a search may run for some seconds, and was told that it has run as long
abbrev pub IsLate : Option ℕ → (ℕ → Type 0) → Type 0
IsLate seconds Told = (most : ℕ) × (run : ℕ) × (seconds ≡ Some most) × (most ≤ run) × Told run
