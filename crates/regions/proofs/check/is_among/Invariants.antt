use Rattle.std.proofs.Common.{◌≡◌, take}
use Rattle.grid.specs.Squares.{contains}
use Rattle.regions.proofs.check.is_among.Given as goal

abbrev pub invariant-loop-other : goal.invariant-loop-other
invariant-loop-other l = l.found ≡ contains (take l.other-index l.squares) l.square
