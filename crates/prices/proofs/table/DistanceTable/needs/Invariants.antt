use Rattle.std.proofs.Common.{◌≡◌, ◌+◌, ◌*◌, ◌≤◌, drop}
use Rattle.prices.specs.Prices.{sum_over}
use Rattle.prices.specs.inside.Sums.{greatest, need_seen}
use Rattle.prices.proofs.table.DistanceTable.needs.Given as goal

abbrev pub invariant-loop-square : goal.invariant-loop-square
invariant-loop-square l = record {
  sum : l.needs + sum_over (λ b. need_seen l.self l.tolls b l.player) (drop l.square-index l.boxes) ≡
      sum_over (λ b. need_seen l.self l.tolls b l.player) l.boxes;
  few : l.needs ≤ l.square-index * greatest;
}
