use Rattle.std.proofs.Common.{◌≡◌, length, take}
use Rattle.area.specs.declared.spread.TheConstants.{BOX_MARK}
use Rattle.area.specs.inside.Spread.{AreBlocked}
use Rattle.area.proofs.walks.mark_boxes.Given as goal

abbrev pub invariant-loop-square : goal.invariant-loop-square
invariant-loop-square l = record {
  room : length l.marks ≡ length l.fn.marks;
  blocked : AreBlocked BOX_MARK (take l.square-index l.boxes) l.marks;
}
