use Rattle.std.proofs.Common.{ℕ}
use Rattle.grid.specs.declared.dir.Dir.{Dir}
use Rattle.regions.specs.inside.Listing.{SeatListed}
use Rattle.regions.proofs.Each.{first_and_rest, of_each}
use Rattle.regions.proofs.listing.+are_seats_listed.Goals as goal

pub returns-then-is_seat_listed : goal.returns-then-is_seat_listed
returns-then-is_seat_listed t c = λ yes. of_each
    (λ (q : ℕ). (d : Dir) → SeatListed c.args.look.now c.args.steps.now q d)
    c.args.seats.now c.first-item.result (first_and_rest c.args.seats.now c.first-item.result c.in-len1-up.len_at_least c.first-item.is)
    (c.is_seat_listed.ensures c.if-is_seat_listed.true) (c.are_seats_listed.ensures yes)
