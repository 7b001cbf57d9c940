use Rattle.std.proofs.Common.{◌+◌, ◌∙◌, sym, subst, arith}
use Rattle.std.specs.List.{swap}
use Rattle.successors.specs.declared.parcel.Successor.{Successor}
use Rattle.successors.specs.inside.Pruned.{IsWithin}
use Rattle.successors.proofs.Picking.{IsPicking, none_picked, one_picked, one_left_out, stood, stood_fits}
use Rattle.successors.proofs.Bringing.{AreBrought, none_brought, one_brought, one_passed, brought_within, sum_at}
use Rattle.successors.proofs.pruning.pick.Goals.{then-is_within, else-is_within}
use Rattle.successors.proofs.pruning.pick.Goals as goal

pub loop-place-init : goal.loop-place-init
loop-place-init c = (none_picked c.args.bound.now c.args.most c.args.slots.now, none_brought c.args.slots.now c.args.sums.now)

pub is_within-requires : goal.is_within-requires
is_within-requires c =
    stood_fits c.args.bound.now c.args.most c.args.slots.now c.loop-place.slots c.loop-place.kept c.loop-place.place c.args.count c.loop-place.invariant.0
    c.loop-place-test.true c.requires.filled c.requires.fits c.index-slots-place.result c.index-slots-place.is

pub bring-requires-clause-order : goal.bring-requires-clause-order
bring-requires-clause-order c = c.loop-place.invariant.0.order

pub bring-requires-clause-slots : goal.bring-requires-clause-slots
bring-requires-clause-slots c = omega (arith, c.loop-place-test.true, c.requires.filled, c.loop-place.invariant.0.long)

pub bring-requires-clause-sums : goal.bring-requires-clause-sums
bring-requires-clause-sums c =
    let s = c.index-slots-place.result in
    let was = stood c.args.bound.now c.args.most c.args.slots.now c.loop-place.slots c.loop-place.kept c.loop-place.place c.loop-place.invariant.0
    (omega (arith, c.loop-place-test.true, c.requires.filled)) s c.index-slots-place.is in
    brought_within c.loop-place.slots c.args.sums.now c.loop-place.sums c.loop-place.kept c.loop-place.place s c.loop-place.invariant.0.order
    (c.loop-place.invariant.0.rest c.loop-place.place s (omega arith) was)
    (sum_at c.args.count c.args.slots.now c.args.sums.now c.requires.sums c.loop-place.place s c.loop-place-test.true was) c.loop-place.invariant.1

pub loop-place-preserved : goal.loop-place-preserved
loop-place-preserved c =
    let board = c.args.bound.now in let most = c.args.most in let before = c.args.slots.now in let now = c.loop-place.slots in
    let front = c.loop-place.kept in let place = c.loop-place.place in
    let s = c.index-slots-place.result in
    let was = stood board most before now front place c.loop-place.invariant.0
    (omega (arith, c.loop-place-test.true, c.requires.filled)) s c.index-slots-place.is in
    let order = c.loop-place.invariant.0.order in
    let there = c.loop-place.invariant.0.rest place s (omega arith) was in
    let beside = sum_at c.args.count before c.args.sums.now c.requires.sums place s c.loop-place-test.true was in
    elim c.if-is_within.branch [
      | then-is_within w ↦ (let holds : IsWithin board s.position.boxes most =
          subst (λ (x : Successor). IsWithin board x.position.boxes most) (sym c.index-slots-place.is) (c.is_within.ensures.0 w.if-is_within.true) in
          let picked = one_picked board most before now front place s c.loop-place.invariant.0 was holds in
          let brought = one_brought now c.args.sums.now c.loop-place.sums front place s order there beside c.loop-place.invariant.1 in
          let slots = w.slots-is ∙ w.bring.ensures.slots in
          let sums = w.sums-is ∙ w.bring.ensures.sums in (
            subst (λ k. IsPicking board most before c.if-is_within.slots k (place + 1)) (sym w.kept-is)
                (subst (λ xs. IsPicking board most before xs (front + 1) (place + 1)) (sym slots) picked),
            subst (λ k. AreBrought c.if-is_within.slots c.args.sums.now c.if-is_within.sums k (place + 1)) (sym w.kept-is)
                (subst (λ xs. AreBrought c.if-is_within.slots c.args.sums.now xs (front + 1) (place + 1)) (sym sums)
                (subst (λ xs. AreBrought xs c.args.sums.now (swap c.loop-place.sums front place) (front + 1) (place + 1)) (sym slots) brought)),
          ))
      | else-is_within w ↦ (let fails : ¬ (IsWithin board s.position.boxes most) =
          λ holds. (let e = c.is_within.ensures.1 (subst (λ (x : Successor). IsWithin board x.position.boxes most) c.index-slots-place.is holds) in
          let f = w.if-is_within.false in cc) in
          let picked = one_left_out board most before now front place s c.loop-place.invariant.0 was fails in
          let brought = one_passed now c.args.sums.now c.loop-place.sums front place s order there beside c.loop-place.invariant.1 in (
            subst (λ k. IsPicking board most before c.if-is_within.slots k (place + 1)) (sym w.kept-is)
                (subst (λ xs. IsPicking board most before xs front (place + 1)) (sym w.slots-is) picked),
            subst (λ k. AreBrought c.if-is_within.slots c.args.sums.now c.if-is_within.sums k (place + 1)) (sym w.kept-is)
                (subst (λ xs. AreBrought c.if-is_within.slots c.args.sums.now xs front (place + 1)) (sym w.sums-is)
                (subst (λ xs. AreBrought xs c.args.sums.now c.loop-place.sums front (place + 1)) (sym w.slots-is) brought)),
          ))
    ]
