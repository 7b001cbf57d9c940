use Rattle.std.proofs.Common.{sym, ◌∙◌}
use Rattle.grid.specs.declared.dir.Dir.{Dir}
use Rattle.grid.proofs.lemmas.Steps.{inside_grid}
use Rattle.prices.proofs.lemmas.Looks.{told_by_four}
use Rattle.regions.specs.inside.Listing.{SeatListed}
use Rattle.regions.proofs.listing.is_seat_listed.Goals as goal

pub returns : goal.returns
returns c = told_by_four
    (λ (d : Dir). SeatListed c.args.look.now c.args.steps.now c.args.seat d)
    c.is_seat_listed_to-down.result c.is_seat_listed_to-left.result c.is_seat_listed_to-right.result c.is_seat_listed_to-up.result
    c.is_seat_listed_to-down.ensures c.is_seat_listed_to-left.ensures c.is_seat_listed_to-right.ensures c.is_seat_listed_to-up.ensures

pub is_seat_listed_to-down-requires : goal.is_seat_listed_to-down-requires
is_seat_listed_to-down-requires c = inside_grid c.args.look.now.level.now c.args.seat (sym c.is_wall.ensures ∙ c.if-is_wall.false)

pub is_seat_listed_to-left-requires : goal.is_seat_listed_to-left-requires
is_seat_listed_to-left-requires c = inside_grid c.args.look.now.level.now c.args.seat (sym c.is_wall.ensures ∙ c.if-is_wall.false)

pub is_seat_listed_to-right-requires : goal.is_seat_listed_to-right-requires
is_seat_listed_to-right-requires c = inside_grid c.args.look.now.level.now c.args.seat (sym c.is_wall.ensures ∙ c.if-is_wall.false)

pub is_seat_listed_to-up-requires : goal.is_seat_listed_to-up-requires
is_seat_listed_to-up-requires c = inside_grid c.args.look.now.level.now c.args.seat (sym c.is_wall.ensures ∙ c.if-is_wall.false)
