use Rattle.std.specs.Prelude.{length}
use Rattle.spreading.proofs.+each_from.Given as goal

abbrev pub decreases-each_from : goal.decreases-each_from
decreases-each_from g l = length l.s.now
