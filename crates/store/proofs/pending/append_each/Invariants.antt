use Rattle.std.proofs.Common.{◌≡◌, ◌+◌, ◌≤◌, ◌++◌, length, take}
use Rattle.std.specs.Prelude.{vec_len}
use Rattle.std.specs.Vec.{vec_capacity}
use Rattle.store.specs.FoundView.{offers_of}
use Rattle.store.proofs.pending.append_each.Given as goal

abbrev pub invariant-loop-index : goal.invariant-loop-index
invariant-loop-index g l =
    (l.pending.items ≡ l.initial.pending.items ++ offers_of l.shares l.share l.rank (take l.index l.successors))
    × (vec_len l.pending + length l.successors ≤ vec_capacity l.pending + l.index)
