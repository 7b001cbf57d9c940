use Rattle.std.proofs.Common.{◌<◌, length}
use Rattle.shortest.proofs.trail.Trail.of.Given as goal

abbrev pub invariant-loop-letter : goal.invariant-loop-letter
invariant-loop-letter l = l.position.player < length l.level.cells
