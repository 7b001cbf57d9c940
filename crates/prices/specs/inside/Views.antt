-- What contracts see of the distances of a level: the level, and the table that says how far a lone box is from each
-- goal.
use Rattle.grid.specs.Board.{Board}
use Rattle.prices.specs.declared.table.DistanceTable.{DistanceTable}

pub record DistancesView : Type 0 where
  pub level : Board
  pub table : DistanceTable
