-- The line is named only if there is no level.
use Rattle.std.proofs.Common.{false, sym, subst, arith}
use Rattle.sokopar.specs.Explaining.{Explains}
use Rattle.sokopar.proofs.Explanations.{strange-said}
use Rattle.sokopar.proofs.explain.put_strange.Goals as goal

pub returns : goal.returns
returns c = λ wanted listing count lists before.
    let some = c.if-levels-gt0.false in
    subst (λ t. Explains c.args.bytes.now wanted listing t false c.args.page.now.lost) (sym c.in_ok-put_foreign.ensures)
    (strange-said c.args.bytes.now wanted c.args.levels c.in-Some.line listing c.in-Some.ensures.0 c.args.page.now count (omega (arith, some)) lists
    c.in-Some.ensures.1 c.in-Some.ensures.2 before)
