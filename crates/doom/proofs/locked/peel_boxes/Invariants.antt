use Rattle.doom.proofs.Passes.{IsPassOver, IsPlaceOf}
use Rattle.doom.proofs.locked.peel_boxes.Given as goal

abbrev pub invariant-loop-square : goal.invariant-loop-square
invariant-loop-square l = IsPassOver l.holds l.cols (IsPlaceOf l.boxes l.square-index) l.fn.members l.members l.went
