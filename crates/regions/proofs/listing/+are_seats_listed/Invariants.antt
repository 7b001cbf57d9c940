use Rattle.std.proofs.Common.{length}
use Rattle.regions.proofs.listing.+are_seats_listed.Given as goal

abbrev pub decreases-are_seats_listed : goal.decreases-are_seats_listed
decreases-are_seats_listed l = length l.seats.now
