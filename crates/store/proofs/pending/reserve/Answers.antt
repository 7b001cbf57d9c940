use Rattle.std.proofs.Common.{◌∙◌}
use Rattle.store.specs.FoundView.{found_view}
use Rattle.store.proofs.pending.reserve.Goals as goal

pub returns-in_err-reserve-clause-same : goal.returns-in_err-reserve-clause-same
returns-in_err-reserve-clause-same g c =
    λ boxes squares. (λ i. found_view boxes squares c.args.start (c.reserve.ensures.entries i) c.enter_if_full.new.pending.items) ∙
    c.enter_if_full.ensures.same boxes squares

pub returns-clause-same : goal.returns-clause-same
returns-clause-same g c = λ boxes squares. (λ i. found_view boxes squares c.args.start (c.reserve.ensures.entries i) (c.reserve-2.ensures.items i)) ∙
    c.enter_if_full.ensures.same boxes squares
