use Rattle.std.proofs.Common.{refl, arith}
use Rattle.std.proofs.lemmas.List.{get_or_read}
use Rattle.grid.proofs.lemmas.Squares.{contains-get_or}
use Rattle.doom.proofs.Passes.{IsPlaceOf, pass_none, pass_box, pass_boxes}
use Rattle.doom.proofs.locked.peel_boxes.Goals as goal

pub loop-square-init : goal.loop-square-init
loop-square-init c = pass_none c.args.holds.now c.args.cols (IsPlaceOf c.args.boxes.now 0) c.args.members.now (λ k (i, lt, e). omega (arith, lt))

pub peel_word-went-requires-clause-index : goal.peel_word-went-requires-clause-index
peel_word-went-requires-clause-index c =
    let at = get_or_read c.args.boxes.now c.loop-square.square-index c.square-item.result c.loop-square-test.true c.square-item.is 0 in
    let m = contains-get_or c.args.boxes.now c.loop-square.square-index 0 c.loop-square-test.true in
    omega (arith, at, c.requires.inside _ m)

pub loop-square-preserved : goal.loop-square-preserved
loop-square-preserved c =
    pass_box c.args.holds.now c.args.cols c.args.boxes.now c.loop-square.square-index c.square.inside.0 c.args.members.now c.loop-square.members
    c.peel_word-went.new.members c.loop-square.went c.peel_word-went.result _
    (let at = get_or_read c.args.boxes.now c.loop-square.square-index c.square-item.result c.loop-square-test.true c.square-item.is 0 in
    omega (arith, at, c.square.view_is)) refl c.peel_word-went.ensures c.loop-square.invariant

pub returns : goal.returns
returns c = pass_boxes c.args.holds.now c.args.cols c.args.boxes.now c.loop-square.square-index c.args.members.now c.loop-square.members c.loop-square.went
    c.loop-square-test.false c.requires.among c.loop-square.invariant
