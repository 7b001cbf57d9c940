use Rattle.std.proofs.Common.{[], ap, ◌∙◌, arith}
use Rattle.store.specs.FoundView.{found_view}
use Rattle.store.proofs.PendingOffers.{length-found}
use Rattle.store.proofs.table.PositionTable.count.Goals as goal

pub returns-clause-count : goal.returns-clause-count
returns-clause-count g c =
    let a = c.self.inside in
    let n = length-found a.boxes a.squares a.start c.enter_all.new.table.entries [] c.args.self.now c.enter_all.ensures.found
    (c.enter_all.ensures.same a.boxes a.squares ∙ c.self.view_is) in
    omega (arith, n.0, n.1, c.len.ensures.len)

pub returns-clause-same : goal.returns-clause-same
returns-clause-same g c =
    let a = c.self.inside in
    ap (found_view a.boxes a.squares a.start c.enter_all.new.table.entries) c.enter_all.ensures.empty ∙ c.enter_all.ensures.same a.boxes a.squares ∙
    c.self.view_is
