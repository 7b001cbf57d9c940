use Rattle.std.proofs.Common.{◌∙◌, ℕ, IfOk, subst}
use Rattle.grid.specs.Board.{Board}
use Rattle.prices.specs.Timing.{IsLate}
use Rattle.shortest.specs.inside.Listing.{EndsListing}
use Rattle.shortest.proofs.listing.list_over.Goals as goal

pub returns : goal.returns
returns g c =
    let new = c.list_all-end.new.listed in
    let Late = IsLate c.args.seconds (g.P.Progress.told c.list_all-end.new.progress) in
    subst (λ (b : Board). IfOk c.list_all-end.result (λ end. EndsListing b c.args.most c.args.limit Late new end)) (c.in_ok-bounds.ensures.0 ∙ c.level.ensures)
    (subst (λ (n : ℕ). IfOk c.list_all-end.result (λ end. EndsListing c.in_ok-bounds.bounds.board n c.args.limit Late new end))
    c.in_ok-bounds.ensures.1 c.list_all-end.ensures)
