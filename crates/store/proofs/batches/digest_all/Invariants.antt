use Rattle.std.proofs.Common.{◌≡◌, ◌<◌, ℕ, Some, length, get_or}
use Rattle.std.specs.Prelude.{slice_get}
use Rattle.grid.specs.declared.square.Push.{Push}
use Rattle.grid.specs.Board.{Scene}
use Rattle.store.specs.Entries.{OpenEntry}
use Rattle.store.specs.inside.KeyRows.{key_digest}
use Rattle.store.proofs.batches.digest_all.Given as goal

abbrev pub invariant-loop-nth : goal.invariant-loop-nth
invariant-loop-nth g l = (length l.digests ≡ length l.initial.digests) ×
    ((i : ℕ) (o : OpenEntry Scene Push) → i < l.nth → slice_get l.offers i ≡ Some o → get_or l.digests i 0 ≡ key_digest g.row.N g.row.M o.0)
