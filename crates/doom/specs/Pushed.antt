-- What dooms the boxes after a push: boxes connected to the pushed one.
use Rattle.std.specs.Prelude.{◌≡◌, ℕ, true, ◌⊎◌}
use Rattle.grid.specs.declared.square.Push.{Push}
use Rattle.grid.specs.Squares.{Squares, contains, insert, remove}
use Rattle.grid.specs.Board.{Board, next}
use Rattle.area.specs.Groups.{HangsWith}
use Rattle.doom.specs.Deadlocks.{IsDead, IsFrozen, Doomed}

-- some of the boxes connected to the one on the square are frozen
abbrev pub IsGroupFrozen : Board → Squares → ℕ → Type 0
IsGroupFrozen board boxes q =
    (members : Squares) × IsFrozen board boxes members ×
    ((m : ℕ) → contains members m ≡ true → HangsWith board boxes q m)

-- some of the boxes not connected to it are frozen
abbrev pub AreOthersFrozen : Board → Squares → ℕ → Type 0
AreOthersFrozen board boxes q =
    (members : Squares) × IsFrozen board boxes members ×
    ((m : ℕ) → contains members m ≡ true → ¬ (HangsWith board boxes q m))

-- the square is dead, or some of the boxes connected to the one on it are frozen
abbrev pub DoomedFrom : Board → Squares → ℕ → Type 0
DoomedFrom board boxes q = IsDead board q ⊎ IsGroupFrozen board boxes q

-- the boxes are what a push makes of boxes that are not doomed
abbrev pub ComeUndoomed : Board → Push → Squares → Type 0
ComeUndoomed board push boxes =
    (before : Squares) × (boxes ≡ insert (remove before push.square) (next board push.square push.dir)) ×
    ¬ (Doomed board before)
