use Rattle.std.proofs.Common.{true, false}
use Rattle.lurd.proofs.Replaying.{wrong_case}
use Rattle.lurd.proofs.verdict.replay.Goals as goal

pub returns-in-Walked : goal.returns-in-Walked
returns-in-Walked c = rw (← c.as_slice-letter-items.ensures) (wrong_case _ _ _ _ true
    c.loop-index-test.true c.if-letter.true c.loop-index.invariant.lead c.in-Walked.ensures.steps)

pub returns-in-Pushed : goal.returns-in-Pushed
returns-in-Pushed c = rw (← c.as_slice-letter-items.ensures) (wrong_case _ _ _ _ false
    c.loop-index-test.true c.if-not-letter.true c.loop-index.invariant.lead c.in-Pushed.ensures.steps)
