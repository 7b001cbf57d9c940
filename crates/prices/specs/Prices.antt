-- What boxes need at least, by tolls of the goals.
use Rattle.std.specs.Prelude.{◌≡◌, ◌≢◌, ℕ, suc, ◌+◌, ◌≤◌, ◌<◌, min, true, false, List, [], ◌∷◌, length}
use Rattle.grid.specs.declared.dir.Dir.{Dir}
use Rattle.grid.specs.declared.square.Push.{Push}
use Rattle.grid.specs.Squares.{Squares, places_from}
use Rattle.grid.specs.Board.{Board, Scene, IsSolved, is_goal, is_wall, goal_cell, next}
use Rattle.grid.specs.States.{IsScene}
use Rattle.grid.specs.Plays.{Play, Any}
use Rattle.prices.specs.Solving.{NoneWithin}

-- the squares with goals
abbrev pub goals_of : Board → Squares
goals_of board = places_from goal_cell 0 board.cells

-- the sum of numbers over squares
abbrev pub sum_over : (ℕ → ℕ) → Squares → ℕ
sum_over f [] = 0
sum_over f (x ∷ xs) = f x + sum_over f xs

-- a lone box on b and the player on p can stand there: neither square is a wall, and they are two
pub record CanStand (board : Board) (b p : ℕ) : Type 0 where
  pub floor : is_wall board b ≡ false
  pub player : is_wall board p ≡ false
  pub apart : p ≢ b

-- what a box on a square needs at least to come to a goal and pay its toll, the player standing on a second square:
-- on a goal no more than the toll, and no step of the player lessens it but a push of the box, which does by at most
-- one
pub record IsNeed (board : Board) (toll : ℕ → ℕ) (need : ℕ → ℕ → ℕ) : Type 0 where
  pub home : (g p : ℕ) → is_goal board g ≡ true → CanStand board g p → need g p ≤ toll g
  pub walk : (b p : ℕ) (d : Dir) → let q = next board p d in
      CanStand board b p → CanStand board b q → need b p ≤ need b q
  pub push : (p : ℕ) (d : Dir) → let q = next board p d in let r = next board q d in
      CanStand board q p → CanStand board r q → need q p ≤ suc (need r q)

-- what all boxes need
abbrev pub total_need : (ℕ → ℕ → ℕ) → Scene → ℕ
total_need need s = sum_over (λ b. need b s.player) s.boxes

-- no play that ends solved has fewer pushes than the boxes need above the tolls of the goals
abbrev pub NeedsHold : Board → Type 0
NeedsHold board =
    (toll : ℕ → ℕ) (need : ℕ → ℕ → ℕ) → IsNeed board toll need
    → (s t : Scene) (ds : List Dir) (ps : List Push) → IsScene board s → Play board Any s ds ps t → IsSolved board t
    → total_need need s ≤ length ps + sum_over toll (goals_of board)

-- if the boxes need more than m pushes above the tolls, no play with at most m pushes ends solved
abbrev pub NeedsRefuse : Board → Type 0
NeedsRefuse board =
    (toll : ℕ → ℕ) (need : ℕ → ℕ → ℕ) (m : ℕ) (s : Scene) → IsNeed board toll need → IsScene board s
    → m + sum_over toll (goals_of board) < total_need need s → NoneWithin board m s

-- the least of some costs, and of a cap
abbrev pub least_of : (ℕ → ℕ) → ℕ → List ℕ → ℕ
least_of cost cap [] = cap
least_of cost cap (g ∷ gs) = min (cost g) (least_of cost cap gs)

-- how far a box is from each goal at least, the player standing on a third square: nothing on the goal itself, and no
-- step of the player lessens it but a push of the box, which does by at most one
pub record AreFar (board : Board) (far : ℕ → ℕ → ℕ → ℕ) : Type 0 where
  pub home : (g p : ℕ) → is_goal board g ≡ true → CanStand board g p → far g g p ≡ 0
  pub walk : (g b p : ℕ) (d : Dir) → let q = next board p d in
      CanStand board b p → CanStand board b q → far g b p ≤ far g b q
  pub push : (g p : ℕ) (d : Dir) → let q = next board p d in let r = next board q d in
      CanStand board q p → CanStand board r q → far g q p ≤ suc (far g r q)

-- what a box needs by these distances and tolls: the least over the goals of distance and toll, and a cap
abbrev pub need_of : Board → (ℕ → ℕ → ℕ → ℕ) → (ℕ → ℕ) → ℕ → ℕ → ℕ → ℕ
need_of board far toll cap b p = least_of (λ g. far g b p + toll g) cap (goals_of board)

-- for any tolls and cap that is a need
abbrev pub TollsAreFree : Board → Type 0
TollsAreFree board =
    (far : ℕ → ℕ → ℕ → ℕ) (toll : ℕ → ℕ) (cap : ℕ) → AreFar board far → IsNeed board toll (need_of board far toll cap)

-- the boxes need at least `low` above the tolls of the goals, for some tolls and cap
abbrev pub ComesOfTolls : Board → (ℕ → ℕ → ℕ → ℕ) → Scene → ℕ → Type 0
ComesOfTolls board far s low =
    (toll : ℕ → ℕ) × (cap : ℕ) × (low + sum_over toll (goals_of board) ≤ total_need (need_of board far toll cap) s)
