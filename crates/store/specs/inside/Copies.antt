-- Copies of closed positions: their squares, one position after the other, and their origins.
use Rattle.std.specs.Prelude.{◌≡◌, ℕ, List, [], ◌∷◌, ◌++◌}
use Rattle.std.specs.Option.{option_to_list}
use Rattle.grid.specs.declared.square.Push.{Push}
use Rattle.grid.specs.Board.{Scene}
use Rattle.store.specs.Entries.{Origin, Closed}

-- the squares of the positions: for each its boxes, and then its player
abbrev pub squares_of : List Scene → List ℕ
squares_of [] = []
squares_of (m ∷ ms) = m.boxes ++ m.player ∷ squares_of ms

-- the squares of an entry's position are appended, and its origin if it has one
abbrev pub IsCopied : Closed → List ℕ → List ℕ → List (Origin Push) → List (Origin Push) → Type 0
IsCopied e squares more_squares origins more_origins = (more_squares ≡ squares ++ (e.0.boxes ++ e.0.player ∷ [])) ×
    (more_origins ≡ origins ++ option_to_list e.1)
