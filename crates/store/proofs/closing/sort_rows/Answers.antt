use Rattle.std.proofs.Common.{rules}
use Rattle.std.proofs.lemmas.List.Sorted.{answers_always, ranks_by}
use Rattle.std.specs.Ordering.{is_lt}
use Rattle.grid.specs.Board.{push_cmp}
use Rattle.grid.proofs.lemmas.Orders.{push_cmp_total}
use Rattle.store.specs.Entries.{origin_cmp}
use Rattle.store.specs.inside.Placing.{Row}
use Rattle.store.proofs.lemmas.Closings.{rise_from_sorted}
use Rattle.store.proofs.lemmas.Origins.{origin_total}
use Rattle.store.proofs.closing.sort_rows.Goals as goal

pub returns-clause-sorted : goal.returns-clause-sorted
returns-clause-sorted c =
    rise_from_sorted (λ (row : Row). row.0) c.sort_unstable_by.new.self.items
    (c.sort_unstable_by.ensures.sorted (λ a b. is_lt (origin_cmp push_cmp a.0 b.0)) (ranks_by (origin_total push_cmp_total) (λ (row : Row). row.0))
    (answers_always _ _ _ (λ f a r g h. search rules)))
