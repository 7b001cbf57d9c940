use Rattle.std.proofs.Common.{◌≡◌, ◌+◌, ◌*◌, ◌≤◌, drop}
use Rattle.prices.specs.Prices.{sum_over}
use Rattle.prices.specs.inside.Sums.{greatest}
use Rattle.regions.specs.inside.Needs.{need_in}
use Rattle.regions.proofs.needs.total_need.Given as goal

abbrev pub invariant-loop-square : goal.invariant-loop-square
invariant-loop-square l = record {
  sum : l.total + sum_over (λ b. need_in l.distances l.needs b l.position.player) (drop l.square-index l.position.boxes) ≡
      sum_over (λ b. need_in l.distances l.needs b l.position.player) l.position.boxes;
  few : l.total ≤ l.square-index * greatest;
}
