use Rattle.std.proofs.Common.{◌≡◌, ◌+◌, ◌≤◌, ◌++◌, length, take}
use Rattle.std.specs.Prelude.{vec_len}
use Rattle.std.specs.Vec.{vec_capacity}
use Rattle.store.specs.inside.Offers.{offers_at}
use Rattle.store.proofs.pending.append_dealt.Given as goal

abbrev pub invariant-loop-index : goal.invariant-loop-index
invariant-loop-index g l =
    (l.pending.items ≡ l.initial.pending.items ++ offers_at l.rank l.successors (take l.index-index l.indices))
    × (vec_len l.pending + length l.indices ≤ vec_capacity l.pending + l.index-index)
