use Rattle.prices.proofs.Goals.{AreGoalsBelow}
use Rattle.prices.proofs.distances.goal_squares.Given as goal

abbrev pub invariant-loop-index : goal.invariant-loop-index
invariant-loop-index l = AreGoalsBelow l.level l.index l.goals.items
