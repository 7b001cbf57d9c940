use Rattle.std.specs.Prelude.{◌+◌, ◌*◌, length}
use Rattle.spreading.proofs.+rest.Given as goal

abbrev pub decreases-part_and_rest : goal.decreases-part_and_rest
decreases-part_and_rest g l = 3 * length l.more.now + 2

abbrev pub decreases-part_and_rest-back : goal.decreases-part_and_rest-back
decreases-part_and_rest-back g l = 3 * length l.more.now + 1

abbrev pub decreases-spread_from : goal.decreases-spread_from
decreases-spread_from g l = 3 * length l.s.now
