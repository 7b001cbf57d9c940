-- Lists of the pushes that a flood allows, as they grow square by square and direction by direction.
use Rattle.std.specs.Prelude.{◌≡◌, ℕ, ◌*◌, ◌<◌, ◌≤◌, ◌⊎◌, true, List, length}
use Rattle.grid.specs.declared.square.Push.{Push}
use Rattle.grid.specs.Rising.{rises_from}
use Rattle.grid.specs.Squares.{Squares, contains}
use Rattle.grid.specs.Board.{Board, dir_number}
use Rattle.area.specs.Pushes.{AreAll}
use Rattle.area.specs.Reach.{Reach}
use Rattle.area.specs.inside.Pushable.{IsPushable}

-- a flood allows a push: someone on a square that it reached can make it, past the boxes round which it went
abbrev pub AllowsPush : Board → Reach → Push → Type 0
AllowsPush board reach p = IsPushable board reach.boxes reach.reached p.dir p.square

-- the push is of a lesser square, or of this one and in one of the first directions
abbrev pub IsBefore : ℕ → ℕ → Push → Type 0
IsBefore square seen p = (p.square < square) ⊎ ((p.square ≡ square) × (dir_number p.dir < seen))

-- ps is the pushes that a flood allows, of lesser squares and of this one in the first directions, each once, in their
-- order
abbrev pub AreAllowedBefore : Board → Reach → ℕ → ℕ → List Push → Type 0
AreAllowedBefore board reach square seen ps = AreAll (λ p. p) (λ p. AllowsPush board reach p × IsBefore square seen p) ps

-- in the midst of the boxes: the list has the pushes of lesser squares than one, at most four for each of the boxes
-- before, and the boxes that are left are those from there on
pub record IsListing (board : Board) (reach : Reach) (left : Squares) (before : ℕ) (ps : List Push) : Type 0 where
  pub seen : ℕ
  pub listed : AreAllowedBefore board reach seen 0 ps
  pub bound : length ps ≤ 4 * before
  pub rising : rises_from seen left ≡ true
  pub rest : (q : ℕ) → seen ≤ q → contains reach.boxes q ≡ true → contains left q ≡ true
