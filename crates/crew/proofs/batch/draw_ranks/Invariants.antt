use Rattle.crew.specs.Work.{IsAtPlace}
use Rattle.crew.specs.inside.Batches.{AreDrawn}
use Rattle.crew.specs.inside.Events.{MayGoOn}
use Rattle.crew.proofs.batch.draw_ranks.Given as goal

abbrev pub invariant-loop-place : goal.invariant-loop-place
invariant-loop-place g l = record {
  drawn : AreDrawn l.fn.worker.shared.now.layer l.fn.drawer.hand l.place l.ranks l.drawer.hand;
  on : MayGoOn (g.G.Gate.may_answer l.fn.worker.gate.now l.fn.worker.shared.now.layer.number l.fn.worker.number) l.fn.nth l.place l.nth;
  at : IsAtPlace l.fn.worker.shared.now.ledger l.fn.worker.number l.drawer;
}
