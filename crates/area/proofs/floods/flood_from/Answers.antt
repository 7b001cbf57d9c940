use Rattle.std.proofs.Common.{length, refl}
use Rattle.grid.proofs.lemmas.Steps.{inside_grid}
use Rattle.area.proofs.InRooms.{flood_found}
use Rattle.area.proofs.lemmas.Flooding.{words_enough}
use Rattle.area.proofs.floods.flood_from.Goals as goal

pub put-requires : goal.put-requires
put-requires c = words_enough (length c.args.level.now.cells) (length c.args.reached.now) c.args.from c.requires.room
    (inside_grid c.args.level.now c.args.from c.requires.floor)

pub returns-clause-reached : goal.returns-clause-reached
returns-clause-reached c = λ s begun.
    flood_found c.args.level.now s c.args.from c.args.barred.now c.args.reached.now c.put.new.self c.grow_in_room.new.reached c.tell.ensures
    (c.if-not-in_room.ensures.0 refl) begun c.put.ensures.put c.grow_in_room.ensures.flooded

pub returns-then-not-in_room-clause-reached : goal.returns-then-not-in_room-clause-reached
returns-then-not-in_room-clause-reached c = λ s begun. c.reach_by_steps.ensures.reached s c.args.reached.now begun
