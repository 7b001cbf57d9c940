-- What the boxes of regions waste at least, on top of what each box needs by itself.
use Rattle.std.specs.Prelude.{◌≡◌, ◌⊎◌, ℕ, suc, ◌+◌, ◌≤◌, ◌<◌, true, List, [], ◌∷◌}
use Rattle.grid.specs.declared.dir.Dir.{Dir}
use Rattle.grid.specs.Board.{Board, Scene, IsSolved, Walks, Pushes, is_goal, next}
use Rattle.grid.specs.States.{FitsLevel}
use Rattle.doom.specs.Lost.{IsLost}
use Rattle.prices.specs.declared.pulls.TheConstants.{NEVER}
use Rattle.prices.specs.inside.Checks.{StayAway}
use Rattle.prices.specs.Solving.{NoneWithin}
use Rattle.prices.specs.Prices.{AreFar, CanStand, IsNeed, goals_of, sum_over, total_need}

-- a lone box on b can come to some goal, the player being on p
abbrev pub CanCome : Board → (ℕ → ℕ → ℕ → ℕ) → ℕ → ℕ → Type 0
CanCome board far b p = (g : ℕ) × (is_goal board g ≡ true) × (far g b p < NEVER)

-- a lower bound on what boxes need above their own needs: nothing where the level is solved; no walk lessens it; a push
-- after which the box can come to a goal lessens it and the need of the box by at most one together
pub record IsExcess (board : Board) (far : ℕ → ℕ → ℕ → ℕ) (need : ℕ → ℕ → ℕ) (excess : Scene → ℕ) : Type 0 where
  pub home : (s : Scene) → FitsLevel board s → IsSolved board s → excess s ≡ 0
  pub walk : (s t : Scene) (d : Dir) → FitsLevel board s → Walks board s d t → excess s ≤ excess t
  pub push : (s t : Scene) (d : Dir) → FitsLevel board s → Pushes board s d t →
      let q = next board s.player d in let r = next board q d in
      CanCome board far r q → need q s.player + excess s ≤ suc (need r q + excess t)

-- no play ends solved with fewer pushes than needs and excess of the boxes together, less the tolls of the goals
abbrev pub ExcessIsBound : Board → Type 0
ExcessIsBound board =
    (far : ℕ → ℕ → ℕ → ℕ) (toll : ℕ → ℕ) (need : ℕ → ℕ → ℕ) (excess : Scene → ℕ) → AreFar board far → StayAway board far
    → IsNeed board toll need → IsExcess board far need excess → (s : Scene) (m : ℕ) → FitsLevel board s
    → m + sum_over toll (goals_of board) < total_need need s + excess s → NoneWithin board m s

-- the excess of boxes that can never all be brought to goals, and the waste of a push after which the box can't come to
-- any goal
abbrev pub endless : ℕ
endless = 255

-- what is left after a push pays for what was before it, with what the push wastes; and it is endless where that was
pub record IsLeft (before waste after : ℕ) : Type 0 where
  pub less : before ≤ waste + after
  pub stuck : endless ≤ before → endless ≤ after

-- what one region says of a state, where it counts of each push of a box on a square in a direction this waste: nothing
-- where the level is solved; no walk lessens it; a push lessens it by at most what it wastes
pub record IsRegion (board : Board) (waste : ℕ → Dir → ℕ) (excess : Scene → ℕ) : Type 0 where
  pub home : (s : Scene) → FitsLevel board s → IsSolved board s → excess s ≡ 0
  pub walk : (s t : Scene) (d : Dir) → FitsLevel board s → Walks board s d t → excess s ≤ excess t
  pub push : (s t : Scene) (d : Dir) → FitsLevel board s → Pushes board s d t →
      let w = waste (next board s.player d) d in w < endless → IsLeft (excess s) w (excess t)

-- a region: the waste that it counts, and what it says
pub record Region : Type 0 where
  pub waste : ℕ → Dir → ℕ
  pub excess : Scene → ℕ

-- what all regions say, and the waste that they count, added up
abbrev pub excess_of : List Region → Scene → ℕ
excess_of [] s = 0
excess_of (p ∷ ps) s = p.excess s + excess_of ps s

abbrev pub waste_of : List Region → ℕ → Dir → ℕ
waste_of [] q d = 0
waste_of (p ∷ ps) q d = p.waste q d + waste_of ps q d

-- one of the regions says that its boxes can never all be brought to goals
abbrev pub HasEndless : List Region → Scene → Type 0
HasEndless [] s = ⊥
HasEndless (p ∷ ps) s = (endless ≤ p.excess s) ⊎ HasEndless ps s

-- each of them is a region of the level
abbrev pub AreRegions : Board → List Region → Type 0
AreRegions board [] = Unit {0}
AreRegions board (p ∷ ps) = IsRegion board p.waste p.excess × AreRegions board ps

-- no region counts an endless waste for the push
abbrev pub AreFinite : List Region → ℕ → Dir → Type 0
AreFinite [] q d = Unit {0}
AreFinite (p ∷ ps) q d = (p.waste q d < endless) × AreFinite ps q d

-- a push of a lone box after which it can come to a goal wastes what all regions count for it: its need becomes so much
-- greater than one less
abbrev pub ArePaid : Board → (ℕ → ℕ → ℕ → ℕ) → (ℕ → ℕ → ℕ) → List Region → Type 0
ArePaid board far need ps = (p : ℕ) (d : Dir) → let q = next board p d in let r = next board q d in
    CanStand board q p → CanStand board r q → CanCome board far r q →
    AreFinite ps q d × (need q p + waste_of ps q d ≤ suc (need r q))

-- the sum of what the regions say is an excess if each push wastes what they count for it
abbrev pub PartsAddUp : Board → Type 0
PartsAddUp board =
    (far : ℕ → ℕ → ℕ → ℕ) (need : ℕ → ℕ → ℕ) (ps : List Region) → AreRegions board ps → ArePaid board far need ps
    → IsExcess board far need (excess_of ps)

-- if one region says that its excess is endless, no play ends solved
abbrev pub EndlessIsLost : Board → Type 0
EndlessIsLost board =
    (far : ℕ → ℕ → ℕ → ℕ) (need : ℕ → ℕ → ℕ) (p : Region) → AreFar board far → StayAway board far
    → IsRegion board p.waste p.excess → ArePaid board far need (p ∷ []) → (s : Scene) → FitsLevel board s
    → endless ≤ p.excess s → IsLost board s
