use Rattle.std.proofs.Common.{ap, take, arith}
use Rattle.successors.specs.ParcelView.{ParcelView}
use Rattle.successors.proofs.lemmas.Dealt.{places_there}
use Rattle.successors.proofs.parcel.Parcel.places.Goals as goal

pub returns : goal.returns
returns c =
    let a = c.self.inside in
    let sums = take a.count a.buffers.slots.sums.items in let successors = take a.count a.buffers.slots.successors.items in
    places_there a.deal.shares c.args.shares c.args.share _ _ a.deal.rows a.deal.lens sums successors c.args.self.now.successors
    c.requires c.if-self-shares.false c.self.invariant.2 c.self.invariant.1 (ap (λ (v : ParcelView). v.successors) c.self.view_is) (omega arith) (omega arith)
