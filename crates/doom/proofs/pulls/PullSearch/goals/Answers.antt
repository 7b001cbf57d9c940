use Rattle.std.proofs.Common.{None, replicate, ap, ◌∙◌}
use Rattle.doom.proofs.Pulling.{only_none}
use Rattle.doom.proofs.pulls.PullSearch.goals.Goals as goal

pub mark_goals-requires-clause-none : goal.mark_goals-requires-clause-none
mark_goals-requires-clause-none c =
    c.in_ok-vec.ensures.items_if_clones_equal (only_none _ (λ n no. no)) ∙ ap (λ n. replicate n None) c.squares-squares.ensures
