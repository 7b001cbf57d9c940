use Rattle.std.proofs.Common.{ℕ, ◌<◌, length, refl, sym, ap, subst, ◌∙◌, arith}
use Rattle.grid.specs.Masks.{word_count}
use Rattle.grid.proofs.lemmas.Rooms.{room_floor}
use Rattle.grid.proofs.lemmas.Steps.{inside_grid}
use Rattle.area.specs.Reach.{Reach}
use Rattle.area.specs.inside.RingBits.{IsAround, IsRing}
use Rattle.area.proofs.Circling.{room_after_row, ring_around}
use Rattle.area.proofs.lemmas.Flooding.{words_enough}
use Rattle.area.proofs.lemmas.WordSets.{listed}
use Rattle.area.proofs.sight.look_ahead.Goals as goal

pub ring_of-ring-requires-clause-some : goal.ring_of-ring-requires-clause-some
ring_of-ring-requires-clause-some c =
    let enough = words_enough (length c.args.level.now.cells) (length c.as_words.result.now) c.args.ahead
    (ap length c.as_words.ensures ∙ (c.scratch.invariant.reached_words ∙ ap word_count (ap (λ (r : Reach). r.size) c.scratch.view_is ∙ c.requires.room)))
    (inside_grid c.args.level.now c.args.ahead (room_floor c.args.level.now c.tell.ensures (c.if-not-in_room.ensures.0 refl))) in
    omega (arith, enough)

pub ring_of-ring-requires-clause-inner : goal.ring_of-ring-requires-clause-inner
ring_of-ring-requires-clause-inner c = subst (λ (x : ℕ). x < c.args.ahead) (sym c.cols.ensures)
    (room_after_row c.args.level.now c.tell.ensures c.args.ahead (c.if-not-in_room.ensures.0 refl))

pub look-requires-clause-around : goal.look-requires-clause-around
look-requires-clause-around c =
    subst (λ (x : ℕ). IsAround c.args.level.now c.args.scratch.now.reached x c.ring_of-ring.result) c.requires.ahead
    (ring_around c.args.level.now c.tell.ensures c.args.ahead (c.if-not-in_room.ensures.0 refl) c.args.scratch.now.reached c.as_words.result.now
    c.ring_of-ring.result (λ q. sym (listed c.scratch.inside.reached c.as_words.result.now c.args.scratch.now.reached q
    (ap (λ (r : Reach). r.reached) c.scratch.view_is) c.as_words.ensures))
    (subst (λ (x : ℕ). IsRing x c.as_words.result.now c.args.ahead c.ring_of-ring.result) c.cols.ensures c.ring_of-ring.ensures))

pub look-requires-clause-within : goal.look-requires-clause-within
look-requires-clause-within c = subst (λ (x : ℕ). x < length c.args.level.now.cells) c.requires.ahead
    (inside_grid c.args.level.now c.args.ahead (room_floor c.args.level.now c.tell.ensures (c.if-not-in_room.ensures.0 refl)))
