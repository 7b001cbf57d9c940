use Rattle.std.proofs.Common.{◌∙◌}
use Rattle.grid.specs.Board.{push_cmp}
use Rattle.store.specs.Entries.{origin_cmp}
use Rattle.store.proofs.Packing.{word_order}
use Rattle.store.proofs.origin.Origin.compare.Goals as goal

pub returns : goal.returns
returns c = c.cmp.ensures ∙ word_order c.self.inside.0 c.other.inside.0 ∙ (λ i. origin_cmp push_cmp (c.self.view_is i) (c.other.view_is i))
