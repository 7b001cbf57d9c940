use Rattle.std.proofs.Common.{◌∙◌}
use Rattle.store.specs.FoundView.{found_view}
use Rattle.store.proofs.pending.enter_if_full.Goals as goal

pub returns-then-len-most-clause-same : goal.returns-then-len-most-clause-same
returns-then-len-most-clause-same g c =
    λ boxes squares. (λ i. found_view boxes squares c.args.start c.enter_all.new.table.entries (c.enter_all.ensures.empty i)) ∙
    c.enter_all.ensures.same boxes squares
