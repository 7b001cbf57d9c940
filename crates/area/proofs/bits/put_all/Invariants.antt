use Rattle.std.proofs.Common.{◌≡◌, ℕ, take}
use Rattle.grid.specs.Masks.{has_bit}
use Rattle.grid.specs.Squares.{contains}
use Rattle.area.proofs.bits.put_all.Given as goal

abbrev pub invariant-loop-square : goal.invariant-loop-square
invariant-loop-square l = (q : ℕ) → has_bit l.words q ≡ contains (take l.square-index l.squares) q
