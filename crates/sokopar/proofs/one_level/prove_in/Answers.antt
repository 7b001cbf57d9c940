-- Memory may run out after the solution was judged.
use Rattle.std.proofs.Common.{rules}
use Rattle.sokopar.proofs.Reporting.{given_unreported}
use Rattle.sokopar.proofs.one_level.prove_in.Goals as goal

pub returns-in_err-report_of-in-Some-clause-err : goal.returns-in_err-report_of-in-Some-clause-err
returns-in_err-report_of-in-Some-clause-err g c =
    given_unreported c.args.request.settings c.args.bytes.now c.args.request.number _ c.in-Some.board c.in_ok-judgement-in-Some.judgement _ _
    c.from_residual-in_err-report_of-in-Some.result (search rules) c.in_ok-level_of.ensures c.in-Some.is c.in_ok-judgement-in-Some.ensures.ok
