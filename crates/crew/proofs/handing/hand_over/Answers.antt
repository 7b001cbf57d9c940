use Rattle.std.proofs.Common.{rules}
use Rattle.crew.proofs.Handed.{handed_ends, handed_own, handed_silently}
use Rattle.crew.proofs.handing.hand_over.Goals as goal

pub pass-requires : goal.pass-requires
pass-requires g c = record {
  own = handed_own c.args.worker.now.shared.now.layer c.args.worker.now.shared.now.workers c.args.worker.now.number c.args.parcel.now
      c.in_ok-event.event c.in_ok-event.ensures;
}

pub returns-in_err-event-clause-ends : goal.returns-in_err-event-clause-ends
returns-in_err-event-clause-ends g c = λ hand. (
    let ended = handed_ends c.args.worker.now.shared.now.layer c.args.worker.now.shared.now.workers c.args.worker.now.number c.args.parcel.now
    g.G.Gate.may_stop hand c.in_err-event.field-0.0 c.requires c.in_err-event.ensures in search (rules, ended))

pub returns-in_err-event-clause-gate : goal.returns-in_err-event-clause-gate
returns-in_err-event-clause-gate g c =
    let may = g.G.Gate.may_answer c.args.worker.now.gate.now c.args.worker.now.shared.now.layer.number c.args.worker.now.number in
    let ended = handed_silently c.args.worker.now.shared.now.layer c.args.worker.now.shared.now.workers c.args.worker.now.number c.args.parcel.now
    may c.args.nth.now c.in_err-event.field-0.0 c.in_err-event.ensures in search (rules, ended)
