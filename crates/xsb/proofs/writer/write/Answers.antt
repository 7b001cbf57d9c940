use Rattle.xsb.proofs.ReadAgain.{written-again}
use Rattle.xsb.proofs.writer.write.Goals as goal

pub returns-in-Ok-clause-again : goal.returns-in-Ok-clause-again
returns-in-Ok-clause-again c = written-again c.args.level.now c.tell.ensures

pub returns-in-Err-clause-again : goal.returns-in-Err-clause-again
returns-in-Err-clause-again c = written-again c.args.level.now c.tell.ensures
