use Rattle.std.proofs.Common.{◌∙◌, arith}
use Rattle.std.proofs.lemmas.List.{get_or_read, length-set}
use Rattle.grid.proofs.lemmas.Squares.{contains-get_or}
use Rattle.area.proofs.WalkLengths.{blocked_more}
use Rattle.area.specs.declared.spread.TheConstants.{BOX_MARK}
use Rattle.area.proofs.walks.mark_boxes.Goals as goal

pub bounds-marks-square-inside : goal.bounds-marks-square-inside
bounds-marks-square-inside c =
    let at = get_or_read c.args.boxes.now c.loop-square.square-index c.square-item.result c.loop-square-test.true c.square-item.is 0 in
    let inside = c.requires _ (contains-get_or c.args.boxes.now c.loop-square.square-index 0 c.loop-square-test.true) in
    omega (arith, at, inside, c.square.view_is, c.loop-square.invariant.room)

pub loop-square-preserved : goal.loop-square-preserved
loop-square-preserved c =
    let boxes = c.args.boxes.now in
    let at = get_or_read boxes c.loop-square.square-index c.square-item.result c.loop-square-test.true c.square-item.is 0 in
    let inside = c.requires _ (contains-get_or boxes c.loop-square.square-index 0 c.loop-square-test.true) in
    record {
      room = length-set c.loop-square.marks c.square.inside.0 BOX_MARK ∙ c.loop-square.invariant.room;
      blocked = blocked_more boxes c.loop-square.marks c.loop-square.square-index c.square.inside.0 c.loop-square-test.true
          (c.square.view_is ∙ at) (omega (arith, at, inside, c.square.view_is, c.loop-square.invariant.room)) c.loop-square.invariant.blocked;
    }
