use Rattle.grid.specs.Squares.{insert, remove}
use Rattle.area.specs.Words.{squares_of}
use Rattle.doom.specs.inside.Locking.{weight}
use Rattle.doom.proofs.Passes.{IsPeeling}
use Rattle.doom.proofs.small.is_locked_few.Given as goal

abbrev pub invariant-passes : goal.invariant-passes
invariant-passes g l = IsPeeling l.holds l.cols (insert (remove (squares_of l.boxes) l.fn.from) l.to) (squares_of l.left)

abbrev pub decreases-passes : goal.decreases-passes
decreases-passes g l = weight l.left
