use Rattle.std.proofs.Common.{◌*◌, length}
use Rattle.crew.specs.inside.Events.{MayGoOn}
use Rattle.crew.proofs.handing.hand_batch.Given as goal

abbrev pub invariant-loop-book : goal.invariant-loop-book
invariant-loop-book g l =
    MayGoOn (g.G.Gate.may_answer l.fn.worker.gate.now l.fn.worker.shared.now.layer.number l.fn.worker.number) l.fn.nth (l.book-index * length l.fn.batch) l.nth
