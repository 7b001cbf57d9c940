use Rattle.std.proofs.Common.{sym, ◌∙◌}
use Rattle.prices.proofs.Goals.{goal_gathered, other_passed}
use Rattle.prices.proofs.distances.goal_squares.Goals as goal
use Rattle.prices.proofs.distances.goal_squares.Goals.{then-is_goal+in_ok-push, else-is_goal}

pub loop-index-preserved : goal.loop-index-preserved
loop-index-preserved c = elim c.if-is_goal.branch [
  | then-is_goal+in_ok-push w ↦ rw (w.goals-is, w.in_ok-push.ensures.items)
      (goal_gathered _ _ _ c.loop-index.invariant (sym c.is_goal.ensures ∙ w.if-is_goal.true))
  | else-is_goal w ↦ rw w.goals-is
      (other_passed _ _ _ c.loop-index.invariant (sym c.is_goal.ensures ∙ w.if-is_goal.false))
]
