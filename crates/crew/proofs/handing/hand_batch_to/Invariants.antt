use Rattle.crew.specs.inside.Events.{MayGoOn}
use Rattle.crew.proofs.handing.hand_batch_to.Given as goal

abbrev pub invariant-loop-parcel : goal.invariant-loop-parcel
invariant-loop-parcel g l = MayGoOn (g.G.Gate.may_answer l.fn.worker.gate.now l.fn.worker.shared.now.layer.number l.fn.worker.number) l.fn.nth l.parcel-index l.nth
