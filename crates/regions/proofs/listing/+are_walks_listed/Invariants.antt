use Rattle.std.proofs.Common.{length}
use Rattle.regions.proofs.listing.+are_walks_listed.Given as goal

abbrev pub decreases-are_walks_listed : goal.decreases-are_walks_listed
decreases-are_walks_listed l = length l.squares.now
