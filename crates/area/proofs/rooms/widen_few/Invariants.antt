use Rattle.area.specs.inside.Flooding.{room_left}
use Rattle.area.specs.inside.RoomFloods.{IsWidened}
use Rattle.area.proofs.rooms.widen_few.Given as goal

abbrev pub invariant-loop-clear : goal.invariant-loop-clear
invariant-loop-clear g l = IsWidened l.cols l.clear l.reached l.words

abbrev pub decreases-loop-clear : goal.decreases-loop-clear
decreases-loop-clear g l = room_left l.words
