use Rattle.std.proofs.Common.{subst}
use Rattle.prices.specs.Timing.{IsLate}
use Rattle.shortest.specs.declared.listing.ListEnd.{ListEnd}
use Rattle.shortest.specs.inside.Listing.{EndsListing}
use Rattle.shortest.proofs.Layering.{has_more_states}
use Rattle.shortest.proofs.searching.search_in.Goals as goal

pub best_of-requires-clause-listing : goal.best_of-requires-clause-listing
best_of-requires-clause-listing g c =
    let Late = IsLate c.args.seconds (g.P.Progress.told c.list_states.new.progress) in
    subst (λ (e : ListEnd). EndsListing c.args.level.now c.args.pushes c.args.limit Late c.list_states.new.listed e)
    c.in-Whole.is c.in_ok-end.ensures

pub returns-in-Limit : goal.returns-in-Limit
returns-in-Limit g c =
    let board = c.args.level.now in
    let Late = IsLate c.args.seconds (g.P.Progress.told c.list_states.new.progress) in
    let (done, listing, more) = subst (λ (e : ListEnd). EndsListing board c.args.pushes c.args.limit Late c.list_states.new.listed e)
    c.in-Limit.is c.in_ok-end.ensures in
    has_more_states board c.args.pushes c.args.limit done c.list_states.new.listed.entries listing.listed c.tell.ensures more
