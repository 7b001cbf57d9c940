use Rattle.std.proofs.Common.{◌*◌, arith}
use Rattle.std.proofs.lemmas.Nat.Bits.{bit_at-zero}
use Rattle.grid.specs.declared.masks.TheConstants.{WORD_BITS}
use Rattle.grid.proofs.RoomBits.{room_bit}
use Rattle.grid.proofs.masks.room_word.Goals as goal

pub loop-bit-init : goal.loop-bit-init
loop-bit-init c = λ j. (λ h. absurd (let z = bit_at-zero j in omega (arith, h, z)), λ p. absurd (let lt = p.0 in omega (arith, lt)))

pub loop-bit-preserved : goal.loop-bit-preserved
loop-bit-preserved c = room_bit c.args.board.now
    (WORD_BITS * c.args.place) c.loop-bit.bit c.loop-bit.word c.with_bit-word.result c.in_room.result c.loop-bit.invariant c.in_room.ensures
    c.with_bit-word.ensures

pub returns : goal.returns
returns c = λ j lt. ((λ h. ((c.loop-bit.invariant j).0 h).1), λ r. (c.loop-bit.invariant j).1 (omega (arith, lt), r))
