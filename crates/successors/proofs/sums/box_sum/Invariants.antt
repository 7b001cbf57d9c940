use Rattle.std.proofs.Common.{◌≡◌, ◌*◌, ◌≤◌, sum, take}
use Rattle.successors.proofs.sums.box_sum.Given as goal

abbrev pub invariant-loop-square : goal.invariant-loop-square
invariant-loop-square l = (l.sum ≡ sum (take l.square-index l.boxes)) × (l.sum ≤ 65535 * l.square-index)
