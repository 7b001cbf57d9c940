-- Where the player walks without a push: areas and normal forms.
use Rattle.std.specs.Prelude.{◌≡◌, ℕ, ◌≤◌, List, []}
use Rattle.grid.specs.declared.dir.Dir.{Dir}
use Rattle.grid.specs.Board.{Board, Scene}
use Rattle.grid.specs.Plays.{Play, Any}

-- the state with its player set down on a square
abbrev pub at : Scene → ℕ → Scene
at s q = record { boxes = s.boxes; player = q }

-- the area of s: a play without a push leads from s to the square q
abbrev pub Area : Board → Scene → ℕ → Type 0
Area board s q = (ds : List Dir) × Play board Any s ds [] (at s q)

-- n is the normal form of s: the same boxes, and the least square of the area
pub record IsNorm (board : Board) (s n : Scene) : Type 0 where
  pub boxes : n.boxes ≡ s.boxes
  pub inside : Area board s n.player
  pub least : (q : ℕ) → Area board s q → n.player ≤ q
