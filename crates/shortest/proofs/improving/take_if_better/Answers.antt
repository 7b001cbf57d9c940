use Rattle.std.proofs.Common.{subst}
use Rattle.lurd.specs.Verdict.{IsVerdict}
use Rattle.lurd.specs.declared.verdict.Verdict.{Verdict}
use Rattle.shortest.proofs.Better.{no_worse_by}
use Rattle.shortest.proofs.improving.take_if_better.Goals as goal

pub returns : goal.returns
returns g c =
    let board = c.args.level.now in
    no_worse_by board c.args.moves.now c.args.candidate c.in-Solved.old_pushes c.in-Solved.old_moves
    c.in-Solved-after.new_pushes c.in-Solved-after.new_moves (c.one_verdict.ensures board c.args.moves.now)
    (subst (λ (v : Verdict). IsVerdict board c.args.moves.now v) c.in-Solved.is c.in_ok-before.ensures)
    (subst (λ (v : Verdict). IsVerdict board c.args.candidate v) c.in-Solved-after.is c.in_ok-after.ensures)
    (c.is_better.ensures c.if-not-is_better.false)
