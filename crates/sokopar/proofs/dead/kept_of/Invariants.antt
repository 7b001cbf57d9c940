-- What is kept so far ends as the row does once its last spaces are cut off.
use Rattle.std.proofs.Common.{◌≡◌, ◌==◌, length}
use Rattle.xsb.specs.Boards.{cut_end}
use Rattle.sokopar.proofs.dead.kept_of.Given as goal

abbrev pub invariant-loop-last : goal.invariant-loop-last
invariant-loop-last l = cut_end (λ b. b == 32) l.kept ≡ cut_end (λ b. b == 32) l.row

abbrev pub decreases-loop-last : goal.decreases-loop-last
decreases-loop-last l = length l.kept
