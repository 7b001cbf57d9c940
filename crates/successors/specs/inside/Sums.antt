-- The sum that decides a position's share, and the sums of successors.
use Rattle.std.specs.Prelude.{◌≡◌, ℕ, ◌+◌, List, map, sum}
use Rattle.grid.specs.Board.{Scene}
use Rattle.successors.specs.declared.parcel.Successor.{Successor}

-- the sum of a position's box squares and its player's square
abbrev pub scene_sum : Scene → ℕ
scene_sum m = sum m.boxes + m.player

-- the sums are those of the successors, in order
abbrev pub AreSums : List Successor → List ℕ → Type 0
AreSums ss sums = sums ≡ map (λ s. scene_sum s.position) ss
