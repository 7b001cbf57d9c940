use Rattle.area.specs.Words.{squares_of}
use Rattle.doom.specs.inside.Locking.{weight}
use Rattle.doom.proofs.Passes.{IsPeeling}
use Rattle.doom.proofs.small.keep_held_few.Given as goal

abbrev pub invariant-loop : goal.invariant-loop
invariant-loop g l = IsPeeling l.holds l.cols (squares_of l.members) (squares_of l.left)

abbrev pub decreases-loop : goal.decreases-loop
decreases-loop g l = weight l.left
