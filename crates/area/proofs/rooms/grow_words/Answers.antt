use Rattle.std.proofs.Common.{ℕ, subst}
use Rattle.grid.specs.Masks.{has_bit}
use Rattle.area.specs.inside.RoomFloods.{IsWidened, PassesOver}
use Rattle.area.proofs.InRooms.{are_free}
use Rattle.area.proofs.rooms.grow_words.Goals as goal

pub returns : goal.returns
returns c = record {
  free = c.leave_clear.new.words;
  are_free = are_free c.args.level.now c.args.barred.now c.room_mask-room.result.now c.leave_clear.new.words c.room_mask-room.ensures c.leave_clear.ensures;
  widened = subst (λ (n : ℕ). IsWidened n c.leave_clear.new.words c.args.reached.now c.widen.new.reached) c.cols-cols.ensures c.widen.ensures.widened;
  whole = subst (λ (n : ℕ). PassesOver n c.leave_clear.new.words (has_bit c.widen.new.reached)) c.cols-cols.ensures c.widen.ensures.whole;
}
