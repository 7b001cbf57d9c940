-- Pushes that no play with few pushes that ends solved makes.
use Rattle.std.specs.Prelude.{◌≡◌, ℕ, suc, ◌+◌, ◌≤◌, true, Option, List, length}
use Rattle.grid.specs.declared.dir.Dir.{Dir}
use Rattle.grid.specs.declared.square.Push.{Push}
use Rattle.grid.specs.Squares.{contains}
use Rattle.grid.specs.Board.{Board, Scene, Pushes, next}
use Rattle.grid.specs.States.{IsScene}
use Rattle.grid.specs.Plays.{Play}
use Rattle.area.specs.After.{IsPushed}
use Rattle.prices.specs.Solving.{SolvableWithin, NoneWithin}
use Rattle.prices.specs.Prices.{IsNeed, goals_of, sum_over, total_need}

-- no play of at most m pushes that ends solved pushes the box on the square in the direction, where it has stood
-- there all the time
abbrev pub NeverHelps : Board → ℕ → Scene → ℕ → Dir → Type 0
NeverHelps board m s b d =
    (x y : Scene) (ds : List Dir) (ps : List Push) (n : ℕ) → Play board (λ z. contains z.boxes b ≡ true) s ds ps x
    → Pushes board x d y → next board x.player d ≡ b → length ps + suc n ≤ m → ¬ (SolvableWithin board n y)

-- after a push that never helps, no play with the pushes that are left ends solved
abbrev pub NeverLeadsOn : Board → Type 0
NeverLeadsOn board = (left : ℕ) (s t : Scene) (p : Push) → IsScene board s →
    NeverHelps board (suc left) s p.square p.dir → IsPushed board s p t
    → NoneWithin board left t

-- a push that costs more than is left never helps: with it the boxes need more, above the tolls, than there are pushes
abbrev pub CostsTell : Board → Type 0
CostsTell board =
    (toll : ℕ → ℕ) (need : ℕ → ℕ → ℕ) (m : ℕ) (s : Scene) (b : ℕ) (d : Dir) → IsNeed board toll need → IsScene board s
    → contains s.boxes b ≡ true
    → m + sum_over toll (goals_of board) + need b s.player ≤ total_need need s + need (next board b d) b →
    NeverHelps board m s b d

-- a position of a level, and how many pushes at most may follow the next one: any number, where there is no cap
pub record SlackView : Type 0 where
  pub board : Board
  pub scene : Scene
  pub left : Option ℕ
