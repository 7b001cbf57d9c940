use Rattle.std.proofs.Common.{◌≡◌, ◌+◌, ◌*◌, ◌≤◌, drop}
use Rattle.prices.specs.Prices.{sum_over}
use Rattle.prices.specs.inside.Sums.{greatest}
use Rattle.regions.specs.inside.Tables.{high_of, low_of}
use Rattle.regions.proofs.table.RegionTable.numbers.Given as goal

abbrev pub invariant-loop-square : goal.invariant-loop-square
invariant-loop-square l = record {
  highs : l.high + sum_over (high_of l.self) (drop l.square-index l.boxes) ≡ sum_over (high_of l.self) l.boxes;
  lows : l.low + sum_over (low_of l.self) (drop l.square-index l.boxes) ≡ sum_over (low_of l.self) l.boxes;
  few : l.high ≤ l.square-index * greatest;
  few_low : l.low ≤ l.square-index * greatest;
}
