use Rattle.std.proofs.Common.{◌≡◌, drop}
use Rattle.grid.specs.Rising.{rises_from, is_rising}
use Rattle.grid.proofs.position.rises.Given as goal

abbrev pub invariant-loop-square : goal.invariant-loop-square
invariant-loop-square l = rises_from l.least (drop l.square-index l.squares) ≡ is_rising l.squares
