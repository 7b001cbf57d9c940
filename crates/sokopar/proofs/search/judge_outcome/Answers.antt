-- At its limit a search knows a bound.
use Rattle.sokopar.proofs.Judging.{limit_least, stopped_least}
use Rattle.sokopar.proofs.search.judge_outcome.Goals as goal

pub judge_open-requires-clause-least : goal.judge_open-requires-clause-least
judge_open-requires-clause-least g c =
    (limit_least c.args.settings c.args.settings.cap c.args.level.now c.args.outcome c.in-Limit.at_least c.requires.outcome c.in-Limit.is).0

pub judge_open-requires-clause-open : goal.judge_open-requires-clause-open
judge_open-requires-clause-open g c =
    (limit_least c.args.settings c.args.settings.cap c.args.level.now c.args.outcome c.in-Limit.at_least c.requires.outcome c.in-Limit.is).1

pub judge_open-requires-in-Stopped-clause-least : goal.judge_open-requires-in-Stopped-clause-least
judge_open-requires-in-Stopped-clause-least g c =
    (stopped_least c.args.settings c.args.settings.cap c.args.level.now c.args.outcome c.in-Stopped.at_least c.requires.outcome c.in-Stopped.is).0

pub judge_open-requires-in-Stopped-clause-open : goal.judge_open-requires-in-Stopped-clause-open
judge_open-requires-in-Stopped-clause-open g c =
    (stopped_least c.args.settings c.args.settings.cap c.args.level.now c.args.outcome c.in-Stopped.at_least c.requires.outcome c.in-Stopped.is).1
