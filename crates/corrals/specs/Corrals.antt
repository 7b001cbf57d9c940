-- Corrals: rooms that boxes shut, and those boxes, of which one has to be pushed, and may as well be pushed first.
use Rattle.std.specs.Prelude.{◌≡◌, ◌≢◌, ℕ, suc, ◌⊎◌, Bool, true, false}
use Rattle.grid.specs.declared.dir.Dir.{Dir}
use Rattle.grid.specs.Squares.{Squares, contains}
use Rattle.grid.specs.Board.{Board, Scene, is_goal, is_wall, next, opposite}
use Rattle.grid.specs.States.{FitsLevel}
use Rattle.grid.specs.Lawful.{IsLevel}
use Rattle.area.specs.Area.{Area}
use Rattle.doom.specs.Deadlocks.{Doomed}
use Rattle.prices.specs.Helping.{NeverHelps}
use Rattle.corrals.specs.Trying.{Suffice}

-- each held square has a box; the room has neither a box nor the player; beside it are only walls, held boxes and the
-- room itself
pub record IsCorral (board : Board) (held room : ℕ → Bool) (s : Scene) : Type 0 where
  pub stands : (q : ℕ) → held q ≡ true → contains s.boxes q ≡ true
  pub clear : (q : ℕ) → room q ≡ true → contains s.boxes q ≡ false
  pub outside : room s.player ≡ false
  pub shut : (q : ℕ) (d : Dir) → room q ≡ true →
      (is_wall board (next board q d) ≡ true) ⊎ ((held (next board q d) ≡ true) ⊎ (room (next board q d) ≡ true))

-- a held box is off goal, or the room has a goal: so some held box has to be pushed
abbrev pub HasToChange : Board → (ℕ → Bool) → (ℕ → Bool) → Type 0
HasToChange board held room =
    ((q : ℕ) × (held q ≡ true) × (is_goal board q ≡ false)) ⊎ ((q : ℕ) × (room q ≡ true) × (is_goal board q ≡ true))

-- what is behind a held box, or ahead of it, bars its push while no held box was pushed: a wall, a held box, or for
-- the player the room
abbrev pub IsBarred : Board → (ℕ → Bool) → (ℕ → Bool) → ℕ → Dir → Type 0
IsBarred board held room b d = let behind = next board b (opposite d) in let ahead = next board b d in
    ((is_wall board behind ≡ true) ⊎ ((held behind ≡ true) ⊎ (room behind ≡ true))) ⊎
    ((is_wall board ahead ≡ true) ⊎ (held ahead ≡ true))

-- the push leads into the room, and the player can make it now
abbrev pub LeadsIn : Board → (ℕ → Bool) → Scene → ℕ → Dir → Type 0
LeadsIn board room s b d = (room (next board b d) ≡ true) × Area board s (next board b (opposite d))

-- some held boxes are doomed once this one is pushed and the others stay
abbrev pub FreezesHeld : Board → (ℕ → Bool) → ℕ → Dir → Type 0
FreezesHeld board held b d = (boxes : Squares) ×
    ((q : ℕ) → contains boxes q ≡ true → (next board b d ≡ q) ⊎ ((held q ≡ true) × (b ≢ q))) × Doomed board boxes

-- the push of a held box is ready: it cannot be the first of a held box, never helps, freezes held boxes, or can be
-- made now into the room
abbrev pub IsReady : Board → ℕ → (ℕ → Bool) → (ℕ → Bool) → Scene → ℕ → Dir → Type 0
IsReady board m held room s b d =
    IsBarred board held room b d ⊎ (NeverHelps board m s b d ⊎ (FreezesHeld board held b d ⊎ LeadsIn board room s b d))

-- held boxes and a room form a corral that has to change, and all pushes that can change it first are ready
pub record IsClosure (board : Board) (m : ℕ) (held room : ℕ → Bool) (s : Scene) : Type 0 where
  pub corral : IsCorral board held room s
  pub change : HasToChange board held room
  pub ready : (b : ℕ) (d : Dir) → held b ≡ true → IsReady board m held room s b d

-- with such a corral the pushes of held boxes suffice
abbrev pub CorralsSuffice : Board → Type 0
CorralsSuffice board = IsLevel board → (left : ℕ) (held room : ℕ → Bool) (s : Scene) → FitsLevel board s
    → IsClosure board (suc left) held room s → Suffice board left (λ p. held p.square ≡ true) s
