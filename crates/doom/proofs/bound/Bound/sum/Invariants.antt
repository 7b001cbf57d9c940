use Rattle.std.proofs.Common.{ℕ, ◌+◌, ◌*◌, ◌≤◌, drop}
use Rattle.doom.specs.Bounds.{IsLower}
use Rattle.doom.proofs.bound.Bound.sum.Given as goal

abbrev pub invariant-loop-square : goal.invariant-loop-square
invariant-loop-square l = record {
  sum : (b : ℕ) → IsLower l.self (drop l.square-index l.boxes) b → IsLower l.self l.boxes (l.sum + b);
  few : l.sum ≤ l.square-index * 65535;
}
