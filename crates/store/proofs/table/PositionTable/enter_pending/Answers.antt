use Rattle.std.proofs.Common.{ap, ◌∙◌}
use Rattle.store.specs.FoundView.{found_view}
use Rattle.store.proofs.table.PositionTable.enter_pending.Goals as goal

pub returns : goal.returns
returns g c =
    let a = c.self.inside in
    ap (found_view a.boxes a.squares a.start c.enter_all.new.table.entries) c.enter_all.ensures.empty ∙ c.enter_all.ensures.same a.boxes a.squares ∙
    c.self.view_is
