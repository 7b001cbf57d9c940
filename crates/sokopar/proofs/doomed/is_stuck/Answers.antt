-- A step more was not possible.
use Rattle.sokopar.proofs.Plights.{blocked_all, blocked_more}
use Rattle.sokopar.proofs.doomed.is_stuck.Goals as goal

pub loop-dir-preserved : goal.loop-dir-preserved
loop-dir-preserved c =
    blocked_more c.args.level.now c.loop-dir.dir-index c.loop-dir.state c.step.new.self c.step.result c.loop-dir.invariant c.in-Blocked.is
    c.step.ensures.steps

pub returns : goal.returns
returns c = λ _. blocked_all c.args.level.now c.loop-dir.dir-index c.loop-dir.state c.loop-dir.invariant c.loop-dir-test.false
