-- What opening the solution gave.
use Rattle.std.proofs.Common.{rules}
use Rattle.sokopar.proofs.Judged.{opened_file, opened_stopped}
use Rattle.sokopar.proofs.judges.ProverJudge.judge.Goals as goal

pub returns-in-Ok-Some : goal.returns-in-Ok-Some
returns-in-Ok-Some g c =
    opened_file (g.D.Folder.opened c.args.self.now.folder.now) g.D.File.Source.seen c.args.self.now.request.proves c.args.self.now.request.settings _ c.args.board.now c.open.result
    c.in-Ok-Some.file _ (search rules) c.open.ensures.opened c.open.ensures.fresh c.judge_file.ensures

pub returns-in-Err : goal.returns-in-Err
returns-in-Err g c =
    opened_stopped (g.D.Folder.opened c.args.self.now.folder.now) g.D.File.Source.seen c.args.self.now.request.proves c.args.self.now.request.settings _ c.args.board.now c.open.result
    c.in-Err.fault _ (search rules) c.open.ensures.opened c.stopped_by.ensures
