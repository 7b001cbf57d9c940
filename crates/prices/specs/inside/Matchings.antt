-- The part of a matching that the next position keeps.
use Rattle.std.specs.Prelude.{◌≡◌}
use Rattle.prices.specs.declared.matching.Matching.{Matching}

-- the boxes and the goals of the two are matched alike, at the same tolls
pub record IsCopy (a b : Matching) : Type 0 where
  pub rows : a.rows ≡ b.rows
  pub count : a.count ≡ b.count
  pub goals : a.goals ≡ b.goals
  pub boxes : a.boxes ≡ b.boxes
  pub tolls : a.tolls ≡ b.tolls
