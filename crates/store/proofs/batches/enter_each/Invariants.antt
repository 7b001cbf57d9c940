use Rattle.std.proofs.Common.{◌≡◌, ◌+◌, ◌≤◌, take}
use Rattle.indexmap.specs.IndexMap.{spare}
use Rattle.store.specs.FoundView.{IsFound, seen_of, open_of, all_let_in}
use Rattle.store.proofs.batches.enter_each.Given as goal

abbrev pub invariant-loop-nth : goal.invariant-loop-nth
invariant-loop-nth g l =
    (open_of l.start l.table.entries ≡ all_let_in (seen_of l.start l.initial.table.entries) (open_of l.start l.initial.table.entries)
    (take l.nth l.offers))
    × (spare l.initial.table ≤ spare l.table + l.nth)
    × IsFound l.start l.table.entries
    × (seen_of l.start l.table.entries ≡ seen_of l.start l.initial.table.entries)
