-- What is left, after the bytes so far in its first line, has a wall in each line exactly if the whole text has.
use Rattle.std.proofs.Common.{◌≡◌, false, length}
use Rattle.sokopar.specs.Showing.{has_walls}
use Rattle.sokopar.proofs.showing.has_walls.Given as goal

abbrev pub invariant-loop-rest : goal.invariant-loop-rest
invariant-loop-rest l = has_walls l.wall l.rest ≡ has_walls false l.bytes

abbrev pub decreases-loop-rest : goal.decreases-loop-rest
decreases-loop-rest l = length l.rest
