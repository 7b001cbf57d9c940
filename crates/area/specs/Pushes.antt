-- Which pushes a position allows, in their order.
use Rattle.std.specs.Prelude.{◌≡◌, ℕ, ◌<◌, true, List, slice_get, Some}
use Rattle.std.specs.declared.cmp.Ordering.TheVariants.{Less}
use Rattle.grid.specs.declared.square.Push.{Push}
use Rattle.grid.specs.Squares.{contains}
use Rattle.grid.specs.Board.{Board, Scene, IsFree, next, opposite, push_cmp}
use Rattle.area.specs.Area.{Area}

-- the player can walk to the square behind the box on the push's square, and the square ahead has neither wall nor box
pub record CanPush (board : Board) (n : Scene) (p : Push) : Type 0 where
  pub there : contains n.boxes p.square ≡ true
  pub behind : Area board n (next board p.square (opposite p.dir))
  pub ahead : IsFree board n.boxes (next board p.square p.dir)

-- xs is all that has the property, each once, in the order of the pushes
pub record AreAll {A : Type 0} (push_of : A → Push) (Has : A → Type 0) (xs : List A) : Type 0 where
  pub each : (i : ℕ) (x : A) → slice_get xs i ≡ Some x → Has x
  pub rise : (i j : ℕ) (x y : A) → i < j → slice_get xs i ≡ Some x → slice_get xs j ≡ Some y →
      push_cmp (push_of x) (push_of y) ≡ Less
  pub whole : (x : A) → Has x → (i : ℕ) × (slice_get xs i ≡ Some x)

-- ps is the pushes that the position allows, each once, in their order
abbrev pub ArePushes : Board → Scene → List Push → Type 0
ArePushes board n ps = AreAll (λ p. p) (CanPush board n) ps
