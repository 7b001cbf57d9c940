-- What was read is judged, or reading it stopped.
use Rattle.sokopar.proofs.Judged.{file_judged, file_stopped}
use Rattle.sokopar.proofs.judges.judge_file.Goals as goal

pub returns-in-Ok : goal.returns-in-Ok
returns-in-Ok g c =
    file_judged g.T.Source.seen c.args.request.proves c.args.request.settings c.args.board.now c.args.file c.judge_given-judged.new.solution c.judge_given-judged.result
    c.in-Ok.judgement c.in-Ok.is c.judge_given-judged.ensures.ok

pub returns : goal.returns
returns g c =
    file_stopped g.T.Source.seen c.args.request.proves c.args.request.settings c.args.board.now c.args.file c.judge_given-judged.new.solution c.judge_given-judged.result
    c.in-Err.fault _ c.in-Err.is c.judge_given-judged.ensures.err c.stopped_by.ensures
