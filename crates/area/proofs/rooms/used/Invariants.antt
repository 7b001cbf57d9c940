use Rattle.std.proofs.Common.{◌≤◌, length}
use Rattle.area.specs.inside.RoomFloods.{AreUnused}
use Rattle.area.proofs.rooms.used.Given as goal

abbrev pub invariant-loop-words : goal.invariant-loop-words
invariant-loop-words l = (l.words ≤ length l.free) × AreUnused l.words l.free l.reached

abbrev pub decreases-loop-words : goal.decreases-loop-words
decreases-loop-words l = l.words
