use Rattle.std.proofs.Common.{length, Some, sym, ap, ◌∙◌, rules, arith}
use Rattle.std.proofs.lemmas.Option.{slice_get-get_or}
use Rattle.successors.specs.ParcelView.{ParcelView}
use Rattle.crew.proofs.Events.{cut_off, ends_at_once}
use Rattle.crew.proofs.handing.hand_batch_to.Goals as goal

pub hand_over-requires : goal.hand_over-requires
hand_over-requires g c =
    let batch = c.args.batch.now in let place = c.loop-parcel.parcel-index in let parcel = c.parcel-item.result in
    c.requires place parcel (slice_get-get_or batch place parcel c.loop-parcel-test.true ∙ ap (λ (p : ParcelView). Some p) (sym c.parcel-item.is))

pub returns-in_err-hand_over-clause-ends : goal.returns-in_err-hand_over-clause-ends
returns-in_err-hand_over-clause-ends g c = λ hand. (let ended = c.in_err-hand_over.ensures.ends hand in search (rules, ended))

pub returns-in_err-hand_over-clause-gate : goal.returns-in_err-hand_over-clause-gate
returns-in_err-hand_over-clause-gate g c =
    let may = g.G.Gate.may_answer c.args.worker.now.gate.now c.args.worker.now.shared.now.layer.number c.args.worker.now.number in
    let nth = c.loop-parcel.nth in let after = c.hand_over.new.nth in let end = c.in_err-hand_over.field-0.0 in
    let ended = cut_off may c.loop-parcel.parcel-index 1 (length c.args.batch.now) c.args.nth.now nth after end (omega (arith, c.loop-parcel-test.true))
    c.loop-parcel.invariant (ends_at_once may nth after end c.in_err-hand_over.ensures.gate) in search (rules, ended)
