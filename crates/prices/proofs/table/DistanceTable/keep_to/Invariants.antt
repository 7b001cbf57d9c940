use Rattle.std.proofs.Common.{◌≡◌, ◌+◌, ◌≤◌, cond, drop}
use Rattle.prices.specs.Prices.{sum_over}
use Rattle.prices.specs.inside.Goals.{keeps_to}
use Rattle.prices.proofs.table.DistanceTable.keep_to.Given as goal

abbrev pub invariant-loop-square : goal.invariant-loop-square
invariant-loop-square l = record {
  count : l.count + sum_over (λ b. cond (keeps_to l.self l.marks b l.player) 1 0) (drop l.square-index l.boxes) ≡
      sum_over (λ b. cond (keeps_to l.self l.marks b l.player) 1 0) l.boxes;
  few : l.count ≤ l.square-index;
}
