-- The level that was shared is the one that was handed in.
use Rattle.std.proofs.Common.{rules, ◌≡◌, ◌≤◌, inr, subst}
use Rattle.std.proofs.lemmas.Result.{IfOk-weaker}
use Rattle.std.specs.Arc.{arc_value}
use Rattle.grid.specs.declared.limits.TheConstants.{MAX_BOXES}
use Rattle.grid.specs.Board.{Board}
use Rattle.grid.specs.Lawful.{box_count}
use Rattle.successors.specs.Capping.{capped}
use Rattle.solo.specs.Answers.{IsAnswer}
use Rattle.sokopar.specs.Report.{Report}
use Rattle.sokopar.specs.Solving.{IsSolveOf, answer_report}
use Rattle.sokopar.proofs.solve.solve_level.Goals as goal

pub returns-in-Ok : goal.returns-in-Ok
returns-in-Ok g c =
    let cap = c.args.config.cap in
    let limit = c.args.config.limit in
    let answer = c.in-Ok.answer in
    let told = c.in-Ok.ensures in
    let same : arc_value c.in_ok-level.level ≡ c.args.level.now = search rules in
    let few = subst (λ (b : Board). box_count b ≤ MAX_BOXES) same told.boxes.1 in
    let answers = subst (λ (b : Board). IsAnswer (capped b cap) limit answer) same told.answer in
    IfOk-weaker c.answer_report.result (λ (r : Report). r ≡ answer_report cap limit answer) (λ (r : Report). IsSolveOf cap limit c.args.level.now r)
    (λ r is. inr (few, (answer, answers, is))) c.answer_report.ensures
