use Rattle.std.proofs.Common.{ap, ◌∙◌}
use Rattle.std.specs.Ordering.{is_lt}
use Rattle.grid.specs.Board.{push_cmp}
use Rattle.store.specs.Entries.{origin_cmp}
use Rattle.store.proofs.Packing.{word_order, less_word}
use Rattle.store.proofs.origin.Origin.is_before.Goals as goal

pub returns : goal.returns
returns c =
    less_word c.self.inside.0 c.other.inside.0 ∙ ap is_lt (word_order c.self.inside.0 c.other.inside.0) ∙
    (λ i. is_lt (origin_cmp push_cmp (c.self.view_is i) (c.other.view_is i)))
