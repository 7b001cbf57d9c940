use Rattle.std.proofs.Common.{◌∙◌}
use Rattle.store.specs.FoundView.{found_view}
use Rattle.store.proofs.PendingOffers.{all_closed, on_err}
use Rattle.store.proofs.table.PositionTable.close.Goals as goal

pub returns-in_err-arrange-clause-err : goal.returns-in_err-arrange-clause-err
returns-in_err-arrange-clause-err g c =
    let a = c.self.inside in
    on_err c.from_residual.result ((λ i. found_view a.boxes a.squares a.start (c.in_err-arrange.ensures.err i) (c.enter_all.ensures.empty i)) ∙
    c.enter_all.ensures.same a.boxes a.squares ∙ c.self.view_is)

pub returns-clause-seen : goal.returns-clause-seen
returns-clause-seen g c =
    let a = c.self.inside in
    all_closed a.boxes a.squares a.start c.len-self-inside.result c.enter_all.new.table.entries c.arrange.new.table.entries c.args.self.now
    (c.enter_all.ensures.same a.boxes a.squares ∙ c.self.view_is) c.len-self-inside.ensures.len c.in_ok-arrange.ensures.ok
