use Rattle.std.proofs.Common.{◌≡◌, ◌↔◌, ◌<◌, ℕ, IsTrue, length, get_or}
use Rattle.store.proofs.key.same_bytes.Given as goal

abbrev pub invariant-loop-index : goal.invariant-loop-index
invariant-loop-index l =
    (length l.bytes ≡ length l.others) × (IsTrue l.same ↔ ((i : ℕ) → i < l.index → get_or l.bytes i 0 ≡ get_or l.others i 0))
