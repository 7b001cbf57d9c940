-- The report on the level is the only one.
use Rattle.sokopar.specs.Solving.{IsSolveOf, IsSolveReport}
use Rattle.sokopar.proofs.OneReport.{only_report}
use Rattle.sokopar.proofs.Reporting.{told_level, told_none}
use Rattle.sokopar.proofs.solve.solve_in.Goals as goal

pub returns-in-Ok : goal.returns-in-Ok
returns-in-Ok g c =
    let bytes = c.args.bytes.now in
    let cap = c.args.config.cap in
    let limit = c.args.config.limit in
    let n = c.args.number in
    only_report (IsSolveReport cap limit n) bytes (c.one_report.ensures.solve cap limit n bytes) c.solve_level.result
    (told_level (IsSolveOf cap limit) bytes n _ c.in-Ok.level c.solve_level.result c.in_ok-level.ensures c.in-Ok.is c.solve_level.ensures)

pub returns-in-Err : goal.returns-in-Err
returns-in-Err g c =
    let bytes = c.args.bytes.now in
    let cap = c.args.config.cap in
    let limit = c.args.config.limit in
    let n = c.args.number in
    let is = told_none (IsSolveOf cap limit) bytes n _ c.in-Err.report c.in_ok-level.ensures c.in-Err.is in
    record { is = is; only = λ other also. c.one_report.ensures.solve cap limit n bytes c.in-Err.report other is also }
