use Rattle.std.proofs.Common.{◌+◌, ◌-◌, ◌*◌, ◌≤◌, length}
use Rattle.area.specs.inside.Flooding.{room_left}
use Rattle.area.specs.inside.RoomFloods.{IsWidening}
use Rattle.area.proofs.rooms.widen_many.Given as goal

abbrev pub invariant-loop-index : goal.invariant-loop-index
invariant-loop-index l = IsWidening l.cols l.free l.index l.fn.reached l.reached × (l.index ≤ length l.free)

abbrev pub decreases-loop-index : goal.decreases-loop-index
decreases-loop-index l = room_left l.reached * (length l.free + 1) + (length l.free - l.index)
