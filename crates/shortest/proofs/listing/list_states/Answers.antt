use Rattle.std.proofs.Common.{IfOk, subst, sym}
use Rattle.successors.specs.Problems.{Problem}
use Rattle.prices.specs.Timing.{IsLate}
use Rattle.shortest.specs.inside.Listing.{EndsListing, IsStateList}
use Rattle.shortest.proofs.listing.list_states.Goals as goal

pub list_over-end-requires-clause-listing : goal.list_over-end-requires-clause-listing
list_over-end-requires-clause-listing g c =
    subst (λ (v : Problem). IsStateList v.board c.args.most 0 c.args.listed.now) (sym c.in_ok-problem.ensures) c.requires.listing

pub returns : goal.returns
returns g c =
    let new = c.list_over-end.new.listed in
    let Late = IsLate c.args.seconds (g.P.Progress.told c.list_over-end.new.progress) in
    subst (λ (v : Problem). IfOk c.list_over-end.result (λ end. EndsListing v.board c.args.most c.args.limit Late new end))
    c.in_ok-problem.ensures c.list_over-end.ensures
