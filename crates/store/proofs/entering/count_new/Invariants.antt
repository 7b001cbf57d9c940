use Rattle.std.proofs.Common.{◌≡◌, ℕ, ◌+◌, ◌≤◌, length, fold, take}
use Rattle.store.specs.Entering.{is_wanted_in, entered}
use Rattle.store.specs.FoundView.{seen_of, open_of}
use Rattle.store.proofs.entering.count_new.Given as goal

abbrev pub invariant-loop-index : goal.invariant-loop-index
invariant-loop-index g l =
    ((rank : ℕ) → length (fold (entered (is_wanted_in (seen_of l.start l.table.entries) l.shares l.share) rank) (open_of l.start l.table.entries)
    (take l.index l.successors)) ≡ length (open_of l.start l.table.entries) + l.count)
    × (l.count ≤ l.index)
