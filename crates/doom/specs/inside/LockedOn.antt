-- Whether boxes are locked with the box on a square.
use Rattle.std.specs.Prelude.{◌≡◌, ℕ, Bool, true, false}
use Rattle.grid.specs.Squares.{Squares, contains}
use Rattle.doom.specs.declared.holds.Holds.{Holds}
use Rattle.doom.specs.inside.Locking.{AreLocked}

-- where the answer is yes, some of the boxes are locked; where it is no, none are with the box on the square
pub record TellsLockedOn (holds : Holds) (cols : ℕ) (boxes : Squares) (square : ℕ) (told : Bool) : Type 0 where
  pub yes : told ≡ true → (part : Squares) × AreLocked holds cols boxes part
  pub no : told ≡ false → (part : Squares) → AreLocked holds cols boxes part → ¬ (contains part square ≡ true)
