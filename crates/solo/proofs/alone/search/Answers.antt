use Rattle.std.proofs.Common.{◌≡◌, ◌≤◌, IfOk, sym, subst, rules}
use Rattle.std.specs.Arc.{arc_value}
use Rattle.grid.specs.Lawful.{box_count}
use Rattle.grid.specs.declared.limits.TheConstants.{MAX_BOXES}
use Rattle.successors.specs.Problems.{Problem}
use Rattle.successors.specs.Capping.{capped}
use Rattle.solo.specs.Answers.{IsAnswer}
use Rattle.solo.proofs.alone.search.Goals as goal

pub search_by-requires-clause-boxes : goal.search_by-requires-clause-boxes
search_by-requires-clause-boxes c =
    let same : arc_value c.in_ok-problem-2.problem ≡ capped (arc_value c.args.level.now) c.args.cap = search rules in
    subst (λ (problem : Problem). box_count problem.board ≤ MAX_BOXES) (sym same) c.requires.boxes

pub returns : goal.returns
returns c =
    let same : arc_value c.in_ok-problem-2.problem ≡ capped (arc_value c.args.level.now) c.args.cap = search rules in
    subst (λ problem. IfOk c.search_by.result (λ answer. IsAnswer problem c.args.limit answer)) same c.search_by.ensures
