use Rattle.std.proofs.Common.{Option, subst, sym}
use Rattle.grid.specs.Board.{Scene}
use Rattle.shortest.specs.inside.Listing.{ListsIf}
use Rattle.shortest.proofs.Layering.{lists_some}
use Rattle.shortest.proofs.listing.list_if_some.Goals as goal

pub returns-clause-lists : goal.returns-clause-lists
returns-clause-lists c =
    let old = c.args.listed.now.entries in
    let new = c.enter.new.self.entries in
    subst (λ (o : Option Scene). ListsIf old new c.args.pushes o) (sym c.in-Some.is)
    (lists_some old new c.in-Some.state c.args.pushes c.label_of.result _ c.requires.most c.label_of.ensures c.in_ok-enter.ensures.ok)
