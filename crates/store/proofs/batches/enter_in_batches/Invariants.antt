use Rattle.std.proofs.Common.{◌≡◌, ◌+◌, ◌≤◌, length}
use Rattle.indexmap.specs.IndexMap.{spare}
use Rattle.store.specs.FoundView.{IsFound, seen_of, open_of, all_let_in}
use Rattle.store.proofs.batches.enter_in_batches.Given as goal

-- the open entries after the remaining offers are those after all offers
abbrev pub invariant-loop-rest : goal.invariant-loop-rest
invariant-loop-rest g l =
    (all_let_in (seen_of l.start l.table.entries) (open_of l.start l.table.entries) l.rest ≡
    all_let_in (seen_of l.start l.initial.table.entries) (open_of l.start l.initial.table.entries) l.offers)
    × (length l.rest ≤ spare l.table)
    × (spare l.initial.table + length l.rest ≤ spare l.table + length l.offers)
    × IsFound l.start l.table.entries
    × (seen_of l.start l.table.entries ≡ seen_of l.start l.initial.table.entries)

abbrev pub decreases-loop-rest : goal.decreases-loop-rest
decreases-loop-rest g l = length l.rest
