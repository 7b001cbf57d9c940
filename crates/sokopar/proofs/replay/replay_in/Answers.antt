-- The report on the level and the solution, or that of another level.
use Rattle.sokopar.specs.Report.{IsReplayOf}
use Rattle.sokopar.proofs.Reporting.{text_level}
use Rattle.sokopar.proofs.replay.replay_in.Goals as goal

pub returns-in-Ok-clause-ok : goal.returns-in-Ok-clause-ok
returns-in-Ok-clause-ok g c =
    text_level IsReplayOf c.args.bytes.now c.args.number _ c.in-Ok.level _ _ c.replay_level.result c.in_ok-level.ensures c.in-Ok.is
    c.replay_level.ensures.ok
