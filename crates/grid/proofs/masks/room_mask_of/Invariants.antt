use Rattle.std.proofs.Common.{◌≡◌, ℕ, ◌*◌, ◌<◌, ◌↔◌, true, length}
use Rattle.grid.specs.declared.masks.TheConstants.{WORD_BITS}
use Rattle.grid.specs.Lawful.{InRoom}
use Rattle.grid.specs.Masks.{has_bit}
use Rattle.grid.proofs.masks.room_mask_of.Given as goal

abbrev pub invariant-loop-place : goal.invariant-loop-place
invariant-loop-place l = record {
  size : length l.mask.items ≡ l.place;
  bits : (q : ℕ) → q < WORD_BITS * l.place → (has_bit l.mask.items q ≡ true) ↔ InRoom l.board q;
}
