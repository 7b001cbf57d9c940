use Rattle.std.specs.Prelude.{length}
use Rattle.crew.proofs.closing.+close_in_rounds.Given as goal

abbrev pub decreases-close_in_rounds : goal.decreases-close_in_rounds
decreases-close_in_rounds g l = length l.books.now
