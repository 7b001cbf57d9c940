use Rattle.regions.proofs.Sets.{part_of_all}
use Rattle.regions.specs.inside.Tables.{waste_in}
use Rattle.regions.proofs.check.all_pass.Goals as goal

pub returns : goal.returns
returns c = λ yes. part_of_all c.args.look.now.level.now c.args.look.now.table.now (waste_in c.args.look.now.wastes.now) c.args.look.now.seats.now.boxes
    c.boxes-seats.result.now c.args.look.now.bits.now c.boxes.result c.tell.ensures c.boxes-seats.ensures.squares c.boxes-seats.ensures.rising
    (c.are_squares_listed.ensures c.if-not-are_squares_listed.false) c.boxes.ensures (c.sets_pass.ensures yes)
