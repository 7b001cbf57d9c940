use Rattle.std.proofs.Common.{length, sym, ap, subst, ◌∙◌}
use Rattle.std.specs.Arc.{arc_value}
use Rattle.grid.specs.Board.{Board}
use Rattle.successors.specs.Problems.{Problem}
use Rattle.solo.specs.inside.Searched.{IsLookedAt}
use Rattle.solo.proofs.lemmas.Iterations.{none_looked}
use Rattle.solo.proofs.search.Search.new.Goals as goal

pub invariant_of-result : goal.invariant_of-result
invariant_of-result c =
    let problem = arc_value c.args.problem.now in (
      subst (λ trail. IsLookedAt problem c.args.limit trail 0) (sym c.new-2.ensures.items) (none_looked problem c.args.limit),
      c.in_ok-scratch.ensures ∙ ap (λ (b : Board). length b.cells) (c.level.ensures ∙ ap (λ (t : Problem). t.board) c.deref.ensures),
    )
