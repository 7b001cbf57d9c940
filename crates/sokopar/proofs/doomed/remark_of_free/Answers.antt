-- No step is possible.
use Rattle.sokopar.proofs.Plights.{stuck}
use Rattle.sokopar.proofs.doomed.remark_of_free.Goals as goal

pub returns-then-branch : goal.returns-then-branch
returns-then-branch c = stuck c.args.level.now c.requires.unsolved (c.in_ok-is_stuck.ensures c.if-branch.true)
