use Rattle.std.proofs.Common.{◌≡◌, [], ◌∷◌, length, ap, arith}
use Rattle.std.proofs.lemmas.List.{length-append}
use Rattle.grid.specs.Masks.{word_count}
use Rattle.grid.proofs.RoomBits.{room_more, room_all}
use Rattle.grid.proofs.masks.room_mask_of.Goals as goal

pub loop-place-preserved : goal.loop-place-preserved
loop-place-preserved c =
    let mask = c.loop-place.mask.items in
    let size = c.loop-place.invariant.size in
    let items = c.in_ok-push.ensures.items in
    record {
      size = omega (arith, size, ap length items, length-append mask (c.room_word.result ∷ []));
      bits = room_more c.args.board.now mask c.push.new.self.items c.room_word.result c.loop-place.place size items c.loop-place.invariant.bits
          c.room_word.ensures;
    }

pub returns : goal.returns
unfolding word_count
returns c =
    let mask = c.loop-place.mask.items in
    let size = c.loop-place.invariant.size in
    let all : length mask ≡ word_count (length c.args.board.now.cells) = omega (arith, size, ap length c.cells.ensures.value) in
    record {
      size = all;
      bits = room_all c.args.board.now mask c.tell.ensures (omega (arith, all)) (λ q lt. c.loop-place.invariant.bits q (omega (arith, lt, size)));
    }
