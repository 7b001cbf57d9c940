use Rattle.std.proofs.Common.{◌≡◌, ◌+◌, ◌*◌, ◌≤◌, drop}
use Rattle.prices.specs.inside.Sums.{greatest, sum_all}
use Rattle.prices.proofs.needs.sum.Given as goal

abbrev pub invariant-loop-number : goal.invariant-loop-number
invariant-loop-number l = record {
  sum : l.sum + sum_all (drop l.number-index l.numbers) ≡ sum_all l.numbers;
  few : l.sum ≤ l.number-index * greatest;
}
