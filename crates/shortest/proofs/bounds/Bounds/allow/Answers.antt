use Rattle.std.proofs.Common.{◌∙◌, ap, subst}
use Rattle.grid.specs.Board.{Board}
use Rattle.doom.specs.Lost.{IsLost}
use Rattle.shortest.specs.inside.Listing.{BoundsView}
use Rattle.shortest.proofs.bounds.Bounds.allow.Goals as goal

pub returns-in-None : goal.returns-in-None
returns-in-None c = λ _ ds ps t play solved.
    let same = c.self.invariant ∙ ap (λ (v : BoundsView). v.board) c.self.view_is in
    absurd (subst (λ (b : Board). IsLost b c.args.state.now) same c.in-None.ensures.lost t ds ps play solved)
