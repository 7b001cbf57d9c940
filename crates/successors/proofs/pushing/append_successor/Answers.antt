use Rattle.std.proofs.Common.{◌≡◌, ◌+◌, sum, inl, inr, ap, subst, ◌∙◌, arith}
use Rattle.grid.specs.Board.{next}
use Rattle.grid.proofs.lemmas.Steps.{inside_grid}
use Rattle.successors.specs.declared.parcel.Successor.{Successor}
use Rattle.successors.proofs.Appending.{slot_more, slot_same, slot_read}
use Rattle.successors.proofs.Shifting.{pushed_sums}
use Rattle.successors.proofs.pushing.append_successor.Goals as goal

pub next-ahead-requires : goal.next-ahead-requires
next-ahead-requires c =
    inside_grid c.args.parent.now.level.now c.args.push.square (c.requires.ready.fits.scene.boxes c.args.push.square c.requires.possible.there)

pub returns-then-not-made-clause-appended : goal.returns-then-not-made-clause-appended
returns-then-not-made-clause-appended c = inr (
  slot_same c.args.slots.now.successors.items c.have_slot.new.slots.items c.as_mut_slice.result.now c.args.count c.make_successor-made.new.slot
      c.have_slot.ensures.place c.have_slot.ensures.kept c.as_mut_slice.ensures.value,
  c.make_successor-made.ensures.none c.if-not-made.true,
)

pub returns-clause-appended : goal.returns-clause-appended
returns-clause-appended c =
    let come = c.make_successor-made.ensures.some c.if-not-made.false in
    inl (
      c.make_successor-made.new.slot,
      slot_more c.args.slots.now.successors.items c.have_slot.new.slots.items c.as_mut_slice.result.now c.args.count c.make_successor-made.new.slot
          c.have_slot.ensures.place c.have_slot.ensures.kept c.as_mut_slice.ensures.value,
      c.make_successor-made.ensures.push,
      come.0,
      come.1,
    )

pub sum_after-sum-requires-clause-moved : goal.sum_after-sum-requires-clause-moved
sum_after-sum-requires-clause-moved c =
    let board = c.args.parent.now.level.now in
    let n = c.args.parent.now.position.now in
    let come = c.make_successor-made.ensures.some c.if-not-made.false in
    let read = c.index-as_slice-count.result in
    let there : read ≡ c.make_successor-made.new.slot = c.index-as_slice-count.is
    ∙ slot_read c.args.slots.now.successors.items c.have_slot.new.slots.items c.as_mut_slice.result.now c.args.count c.make_successor-made.new.slot
    c.have_slot.ensures.place c.have_slot.ensures.kept c.as_mut_slice.ensures.value c.as_slice.result.now c.as_slice.ensures.value read in
    let boxes : sum read.position.boxes ≡ sum c.make_successor-made.new.slot.position.boxes = ap (λ (s : Successor). sum s.position.boxes) there in
    let ahead : c.next-ahead.result ≡ next board c.args.push.square c.args.push.dir = c.next-ahead.ensures in
    let sums = pushed_sums board n c.requires.ready.fits.scene c.args.push c.make_successor-made.new.slot.position come.0 in
    subst (λ (s : Successor). c.args.total + c.next-ahead.result ≡ sum s.position.boxes + c.args.push.square) c.index-as_slice-count.is
    (omega (arith, c.requires.total, ahead, boxes, sums))
