-- The text of a lawful level is judged.
use Rattle.sokopar.proofs.Judged.{board_judged}
use Rattle.sokopar.proofs.given.judge_given.Goals as goal

pub returns-in-Ok-clause-ok : goal.returns-in-Ok-clause-ok
returns-in-Ok-clause-ok g c =
    board_judged c.args.proves c.args.settings c.args.board.now c.in-Ok.level _ _ c.judge_lawful.result c.in-Ok.is c.judge_lawful.ensures.ok
